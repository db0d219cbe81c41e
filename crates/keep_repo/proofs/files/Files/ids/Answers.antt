use Rattle.std.proofs.Common.{sym, ap, ◌∙◌}
use Rattle.std.proofs.lemmas.Result.{IfOk-weaker}
use Rattle.std.specs.FinMap as map
use Rattle.keep_names.specs.declared.file_name.Kind.TheVariants.{Pack, Index, Snapshot}
use Rattle.keep_repo.proofs.ByName.{Files}
use Rattle.keep_repo.proofs.InOrder.{ids_of_kind}
use Rattle.keep_repo.specs.Kinds.{ids_among}
use Rattle.keep_repo.proofs.files.Files.ids.Goals as goal

pub returns-in-Pack : goal.returns-in-Pack
returns-in-Pack c =
    let f = c.self.inside in
    IfOk-weaker c.sorted.result _ _ (λ ids listed.
    listed ∙ ids_of_kind f.packs.entries f.indexes.entries f.snapshots.entries Pack
    ∙ ap (λ (files : Files). ids_among Pack (map.keys files)) c.self.view_is
    ∙ ap (λ kind. ids_among kind (map.keys c.args.self.now)) (sym c.in-Pack.is)) c.sorted.ensures

pub returns-in-Index : goal.returns-in-Index
returns-in-Index c =
    let f = c.self.inside in
    IfOk-weaker c.sorted-in-Index.result _ _ (λ ids listed.
    listed ∙ ids_of_kind f.packs.entries f.indexes.entries f.snapshots.entries Index
    ∙ ap (λ (files : Files). ids_among Index (map.keys files)) c.self.view_is
    ∙ ap (λ kind. ids_among kind (map.keys c.args.self.now)) (sym c.in-Index.is)) c.sorted-in-Index.ensures

pub returns-in-Snapshot : goal.returns-in-Snapshot
returns-in-Snapshot c =
    let f = c.self.inside in
    IfOk-weaker c.sorted-in-Snapshot.result _ _ (λ ids listed.
    listed ∙ ids_of_kind f.packs.entries f.indexes.entries f.snapshots.entries Snapshot
    ∙ ap (λ (files : Files). ids_among Snapshot (map.keys files)) c.self.view_is
    ∙ ap (λ kind. ids_among kind (map.keys c.args.self.now)) (sym c.in-Snapshot.is)) c.sorted-in-Snapshot.ensures
