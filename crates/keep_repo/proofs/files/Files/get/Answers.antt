use Rattle.std.proofs.Common.{sym, ap, ◌∙◌}
use Rattle.std.specs.FinMap as map
use Rattle.keep_names.proofs.Orders.{id_total}
use Rattle.keep_names.specs.FileName.{named}
use Rattle.keep_names.specs.declared.file_name.Kind.TheVariants.{Pack, Index, Snapshot}
use Rattle.keep_repo.proofs.ByName.{Files, get_by_name, same_ids}
use Rattle.keep_repo.proofs.Hashed.{get_hashed}
use Rattle.keep_repo.specs.Files.{by_name}
use Rattle.keep_repo.proofs.files.Files.get.Goals as goal

pub returns-in-Pack : goal.returns-in-Pack
returns-in-Pack c =
    let f = c.self.inside in
    c.get.ensures.value ∙ sym (get_hashed id_total same_ids f.packs.entries c.args.name.id)
    ∙ sym (get_by_name f.packs.entries f.indexes.entries f.snapshots.entries Pack c.args.name.id)
    ∙ ap (λ kind. map.get (by_name f.packs.entries f.indexes.entries f.snapshots.entries) (named kind c.args.name.id)) (sym c.in-Pack.is)
    ∙ ap (λ (files : Files). map.get files c.args.name) c.self.view_is

pub returns-in-Index : goal.returns-in-Index
returns-in-Index c =
    let f = c.self.inside in
    c.get-in-Index.ensures.value ∙ sym (get_hashed id_total same_ids f.indexes.entries c.args.name.id)
    ∙ sym (get_by_name f.packs.entries f.indexes.entries f.snapshots.entries Index c.args.name.id)
    ∙ ap (λ kind. map.get (by_name f.packs.entries f.indexes.entries f.snapshots.entries) (named kind c.args.name.id)) (sym c.in-Index.is)
    ∙ ap (λ (files : Files). map.get files c.args.name) c.self.view_is

pub returns-in-Snapshot : goal.returns-in-Snapshot
returns-in-Snapshot c =
    let f = c.self.inside in
    c.get-in-Snapshot.ensures.value ∙ sym (get_hashed id_total same_ids f.snapshots.entries c.args.name.id)
    ∙ sym (get_by_name f.packs.entries f.indexes.entries f.snapshots.entries Snapshot c.args.name.id)
    ∙ ap (λ kind. map.get (by_name f.packs.entries f.indexes.entries f.snapshots.entries) (named kind c.args.name.id)) (sym c.in-Snapshot.is)
    ∙ ap (λ (files : Files). map.get files c.args.name) c.self.view_is
