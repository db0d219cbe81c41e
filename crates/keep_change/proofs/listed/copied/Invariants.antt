use Rattle.std.proofs.Common.{◌≡◌, ◌++◌, drop}
use Rattle.keep_change.proofs.listed.copied.Given as goal

abbrev pub invariant-loop-item : goal.invariant-loop-item
invariant-loop-item g l = l.copy.items ++ drop l.item-index l.items ≡ l.items
