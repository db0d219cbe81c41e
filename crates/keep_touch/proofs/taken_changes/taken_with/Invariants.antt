-- What was looked at is taken back, and what leans on it is found. Each number is above those before it, and none above the last change.
use Rattle.std.proofs.Common.{◌+◌, ◌-◌, reverse}
use Rattle.keep_journal.specs.History.{last_change}
use Rattle.keep_touch.proofs.Seeking.{bound_of, IsSearch}
use Rattle.keep_touch.proofs.taken_changes.taken_with.Given as goal

abbrev pub invariant-loop-number : goal.invariant-loop-number
invariant-loop-number l = IsSearch l.history.journal l.n (reverse l.numbers.items) l.found

abbrev pub decreases-loop-number : goal.decreases-loop-number
decreases-loop-number l = last_change l.history.journal + 1 - bound_of (reverse l.numbers.items)
