-- The totals of its watches are sums before each row.
use Rattle.keep_book.specs.Armed.{HasSums}
use Rattle.keep_cases.proofs.costs.answer_case.Given as goal

abbrev pub invariant-loop-row : goal.invariant-loop-row
invariant-loop-row l = HasSums l.book
