use Rattle.std.proofs.Common.{ap, sym, ◌∙◌}
use Rattle.std.specs.Option.{option_map}
use Rattle.keep_snap.specs.Snap.{snap_view}
use Rattle.keep_plan.proofs.Carried.{snap_carried}
use Rattle.keep_rewrite.proofs.rewritten_files.Rewritten.put_new.Goals as goal

pub retreed_file-requires : goal.retreed_file-requires
retreed_file-requires c =
    snap_carried c.snapshots_read_back.ensures.read c.args.catalog.now c.args.new.0 (snap_view c.in-Some.snap.now)
    (sym (c.snaps.ensures.each c.args.new.0) ∙ ap (option_map snap_view) (sym c.in-Some.ensures.value))
