use Rattle.std.proofs.Common.{◌+◌, ◌*◌, take}
use Rattle.keep_catalog.specs.Naming.{named_by}
use Rattle.keep_catalog.specs.Places.{chosen_listing}
use Rattle.keep_reach.proofs.Walking.{HasWalked}
use Rattle.keep_reach.proofs.reach_walk.+walking.Given as goal

abbrev pub decreases-walk : goal.decreases-walk
decreases-walk l = 2 * l.levels

abbrev pub decreases-walk_all : goal.decreases-walk_all
decreases-walk_all l = 2 * l.levels + 1

abbrev pub invariant-walk_all-loop-blob : goal.invariant-walk_all-loop-blob
invariant-walk_all-loop-blob l =
    HasWalked (named_by l.catalog) (chosen_listing l.catalog) l.levels (take l.blob-index l.blobs) l.highest l.initial.walked l.walked
