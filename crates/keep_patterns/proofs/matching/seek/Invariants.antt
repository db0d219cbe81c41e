use Rattle.std.proofs.Common.{◌≡◌, length}
use Rattle.keep_patterns.specs.Matching.{any_tail, path_fits}
use Rattle.keep_patterns.proofs.matching.seek.Given as goal

abbrev pub invariant-loop-behind : goal.invariant-loop-behind
invariant-loop-behind l = any_tail (path_fits l.components) l.rest ≡ any_tail (path_fits l.components) l.path

abbrev pub decreases-loop-behind : goal.decreases-loop-behind
decreases-loop-behind l = length l.rest
