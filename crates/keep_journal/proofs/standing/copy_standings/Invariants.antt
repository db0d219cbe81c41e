use Rattle.std.proofs.Common.{◌≡◌, ◌++◌, drop}
use Rattle.keep_journal.proofs.standing.copy_standings.Given as goal

abbrev pub invariant-loop-standing : goal.invariant-loop-standing
invariant-loop-standing l = l.copy.items ++ drop l.standing-index l.standings ≡ l.standings
