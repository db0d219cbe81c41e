use Rattle.std.proofs.Common.{ap, sym, ◌∙◌}
use Rattle.std.specs.Option.{option_map}
use Rattle.keep_snap.specs.Snap.{snap_view}
use Rattle.keep_plan.proofs.Carried.{snap_carried}
use Rattle.keep_labels.proofs.retagged.put_retagged.Goals as goal

pub retagged_file-requires : goal.retagged_file-requires
retagged_file-requires c =
    snap_carried c.snapshots_read_back.ensures.read c.args.catalog.now c.args.name (snap_view c.in-Some.snap.now)
    (sym (c.snaps.ensures.each c.args.name) ∙ ap (option_map snap_view) (sym c.in-Some.ensures.value))
