use Rattle.std.proofs.Common.{◌≡◌, length}
use Rattle.keep_patterns.specs.Matching.{any_tail, name_fits}
use Rattle.keep_patterns.proofs.name_match.seek.Given as goal

abbrev pub invariant-loop-behind : goal.invariant-loop-behind
invariant-loop-behind l = any_tail (name_fits l.pattern) l.rest ≡ any_tail (name_fits l.pattern) l.text

abbrev pub decreases-loop-behind : goal.decreases-loop-behind
decreases-loop-behind l = length l.rest
