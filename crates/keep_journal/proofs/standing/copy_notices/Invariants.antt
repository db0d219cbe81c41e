use Rattle.std.proofs.Common.{◌≡◌, ◌++◌, drop}
use Rattle.keep_journal.proofs.standing.copy_notices.Given as goal

abbrev pub invariant-loop-notice : goal.invariant-loop-notice
invariant-loop-notice l = l.copy.items ++ drop l.notice-index l.notices ≡ l.notices
