use Rattle.std.proofs.Common.{sym, ap, ◌∙◌}
use Rattle.std.specs.FinMap as map
use Rattle.keep_names.specs.FileName.{named}
use Rattle.keep_names.specs.declared.file_name.Kind.TheVariants.{Pack, Index, Snapshot}
use Rattle.keep_repo.proofs.ByName.{Files, gone_counted, taken_away}
use Rattle.keep_repo.specs.Files.{by_name}
use Rattle.keep_repo.proofs.files.Files.remove.Goals as goal

pub returns-in-Pack : goal.returns-in-Pack
returns-in-Pack c =
    let f = c.self.inside in
    taken_away f.packs.entries f.indexes.entries f.snapshots.entries Pack c.remove_id.new.files.entries c.args.name.id c.remove_id.ensures
    ∙ ap (λ kind. map.remove (by_name f.packs.entries f.indexes.entries f.snapshots.entries) (named kind c.args.name.id)) (sym c.in-Pack.is)
    ∙ ap (λ (files : Files). map.remove files c.args.name) c.self.view_is

pub invariant_of-self : goal.invariant_of-self
invariant_of-self c =
    let f = c.self.inside in
    gone_counted _ _ (named Pack c.args.name.id)
    (taken_away f.packs.entries f.indexes.entries f.snapshots.entries Pack c.remove_id.new.files.entries c.args.name.id c.remove_id.ensures)
    c.self.invariant

pub returns-in-Index : goal.returns-in-Index
returns-in-Index c =
    let f = c.self.inside in
    taken_away f.packs.entries f.indexes.entries f.snapshots.entries Index c.remove_id-in-Index.new.files.entries c.args.name.id c.remove_id-in-Index.ensures
    ∙ ap (λ kind. map.remove (by_name f.packs.entries f.indexes.entries f.snapshots.entries) (named kind c.args.name.id)) (sym c.in-Index.is)
    ∙ ap (λ (files : Files). map.remove files c.args.name) c.self.view_is

pub invariant_of-self-in-Index : goal.invariant_of-self-in-Index
invariant_of-self-in-Index c =
    let f = c.self.inside in
    gone_counted _ _ (named Index c.args.name.id)
    (taken_away f.packs.entries f.indexes.entries f.snapshots.entries Index c.remove_id-in-Index.new.files.entries c.args.name.id c.remove_id-in-Index.ensures)
    c.self.invariant

pub returns-in-Snapshot : goal.returns-in-Snapshot
returns-in-Snapshot c =
    let f = c.self.inside in
    taken_away f.packs.entries f.indexes.entries f.snapshots.entries Snapshot c.remove_id-in-Snapshot.new.files.entries c.args.name.id c.remove_id-in-Snapshot.ensures
    ∙ ap (λ kind. map.remove (by_name f.packs.entries f.indexes.entries f.snapshots.entries) (named kind c.args.name.id)) (sym c.in-Snapshot.is)
    ∙ ap (λ (files : Files). map.remove files c.args.name) c.self.view_is

pub invariant_of-self-in-Snapshot : goal.invariant_of-self-in-Snapshot
invariant_of-self-in-Snapshot c =
    let f = c.self.inside in
    gone_counted _ _ (named Snapshot c.args.name.id)
    (taken_away f.packs.entries f.indexes.entries f.snapshots.entries Snapshot c.remove_id-in-Snapshot.new.files.entries c.args.name.id c.remove_id-in-Snapshot.ensures)
    c.self.invariant
