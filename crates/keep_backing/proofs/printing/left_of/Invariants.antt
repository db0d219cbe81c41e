use Rattle.std.proofs.Common.{◌≡◌, length}
use Rattle.keep_backing.proofs.printing.left_of.Given as goal

abbrev pub invariant-loop-one : goal.invariant-loop-one
invariant-loop-one l = length l.left.items ≡ l.one-index
