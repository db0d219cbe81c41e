use Rattle.std.proofs.Common.{◌≡◌, option_map, take}
use Rattle.std.specs.List.{filter_map}
use Rattle.keep_catalog.specs.Kept.{snap_at}
use Rattle.keep_reach.specs.Snapshots.{root_of}
use Rattle.keep_reach.proofs.snapshots.roots.Given as goal

abbrev pub invariant-loop-snapshot : goal.invariant-loop-snapshot
invariant-loop-snapshot l =
    l.roots.items ≡ filter_map (λ name. option_map root_of (snap_at l.snaps name)) (take l.snapshot-index l.snapshots)
