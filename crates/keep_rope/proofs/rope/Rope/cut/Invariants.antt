use Rattle.std.proofs.Common.{◌≡◌, ◌++◌, length}
use Rattle.keep_rope.proofs.rope.Rope.cut.Given as goal

abbrev pub invariant-loop-at : goal.invariant-loop-at
invariant-loop-at l = l.out ++ l.rest ≡ l.text

abbrev pub decreases-loop-at : goal.decreases-loop-at
decreases-loop-at l = length l.rest
