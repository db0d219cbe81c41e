use Rattle.std.proofs.Common.{◌≡◌, length}
use Rattle.keep_bench.proofs.forget.facts_of.Given as goal

abbrev pub invariant-loop-number : goal.invariant-loop-number
invariant-loop-number l = length l.facts.items ≡ l.number
