-- The totals of its watches are sums before each backup.
use Rattle.keep_book.specs.Armed.{HasSums}
use Rattle.keep_cases.proofs.costs.fill_cost.fill.Given as goal

abbrev pub invariant-loop-number : goal.invariant-loop-number
invariant-loop-number g l = HasSums l.book
