-- The totals of its watches are sums before each line.
use Rattle.keep_book.specs.Armed.{HasSums}
use Rattle.keep_cases.proofs.shelves.running.answer_lines.Given as goal

abbrev pub invariant-loop-number : goal.invariant-loop-number
invariant-loop-number g l = HasSums l.book
