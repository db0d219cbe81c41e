use Rattle.std.proofs.Common.{◌≡◌, length}
use Rattle.keep_restoring.proofs.restored_snapshot.left_of.Given as goal

abbrev pub invariant-loop-one : goal.invariant-loop-one
invariant-loop-one l = length l.left.items ≡ l.one-index
