use Rattle.std.proofs.Common.{cond, None, Option, refl, ap, ◌∙◌}
use Rattle.std.proofs.lemmas.Result.{on_ok_weaker}
use Rattle.std.specs.Option.{option_or}
use Rattle.keep_names.specs.FileName.{named}
use Rattle.keep_names.specs.declared.file_name.FileName.{FileName}
use Rattle.keep_names.specs.declared.file_name.Kind.TheVariants.{Snapshot}
use Rattle.keep_snap.specs.Snap.{SnapData}
use Rattle.keep_catalog.specs.Kept.{snap_at}
use Rattle.keep_catalog.specs.Orders.{same_name, same_id}
use Rattle.keep_catalog.specs.declared.unread.FileError.{FileError}
use Rattle.keep_catalog.proofs.Coming.{noted_at, snapshot_comes}
use Rattle.keep_catalog.proofs.tables.Tables.add_snapshot.Goals as goal

pub returns : goal.returns
returns c =
    let old = c.args.self.now in
    let name = c.args.name in
    on_ok_weaker c.note.result (λ noted r absent kept.
    snapshot_comes r old _ c.args.bytes.now kept name absent
    (λ q. c.in_ok-keep.ensures.kept q ∙ ap (λ (snap : Option SnapData). option_or (cond (same_id name q) snap None) (snap_at old.snaps q)) c.in_ok-snap.ensures.snap)
    (c.in_ok-keep.ensures.ordered kept.ordered)
    (λ q. noted q
    ∙ ap (λ (n : FileName). option_or (cond (same_name n q) c.in_ok-snap.why None) (noted_at old q)) c.snapshot.ensures
    ∙ ap (λ (why : Option FileError). option_or (cond (same_name (named Snapshot name) q) why None) (noted_at old q)) c.in_ok-snap.ensures.why)
    refl refl refl) c.note.ensures
