use Rattle.std.proofs.Common.{length}
use Rattle.keep_patterns.specs.Matching.{path_fits}
use Rattle.keep_patterns.proofs.Tails.{Kept}
use Rattle.keep_patterns.proofs.matching.walk.Given as goal

abbrev pub invariant-loop-piece : goal.invariant-loop-piece
invariant-loop-piece l = Kept path_fits l.components l.path l.left l.rest

abbrev pub decreases-loop-piece : goal.decreases-loop-piece
decreases-loop-piece l = length l.left
