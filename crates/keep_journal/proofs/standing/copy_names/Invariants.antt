use Rattle.std.proofs.Common.{◌≡◌, ◌++◌, drop}
use Rattle.keep_journal.proofs.standing.copy_names.Given as goal

abbrev pub invariant-loop-list : goal.invariant-loop-list
invariant-loop-list l = l.copy.items ++ drop l.list-index l.lists ≡ l.lists
