use Rattle.std.proofs.Common.{[], option_map, get_or, refl}
use Rattle.keep_catalog.specs.Kept.{snap_at}
use Rattle.keep_reach.specs.Snapshots.{root_of}
use Rattle.keep_catalog.proofs.Growing.{more_noted, no_id}
use Rattle.keep_reach.proofs.snapshots.roots.Goals as goal

pub loop-snapshot-preserved : goal.loop-snapshot-preserved
loop-snapshot-preserved c =
    let names = c.args.snapshots.now in
    let i = c.loop-snapshot.snapshot-index in
    more_noted names i (get_or names i no_id) no_id c.loop-snapshot-test.true refl (λ name. option_map root_of (snap_at c.args.snaps.now name)) [] _ _ c.loop-snapshot.invariant c.in_ok-add_root.ensures
