use Rattle.std.proofs.Common.{◌≡◌, length}
use Rattle.keep_patterns.specs.Matching.{any_tail}
use Rattle.keep_patterns.specs.Matching as spec
use Rattle.keep_patterns.proofs.matching.fits_tail.Given as goal

abbrev pub invariant-loop-next : goal.invariant-loop-next
invariant-loop-next l = any_tail (spec.path_fits l.behind) l.rest ≡ any_tail (spec.path_fits l.components) l.path

abbrev pub decreases-loop-next : goal.decreases-loop-next
decreases-loop-next l = length l.behind
