use Rattle.std.proofs.Common.{map}
use Rattle.keep_options.proofs.BadWordLemmas.{NoneFrom}
use Rattle.keep_options.proofs.options.find_bad_word.Given as goal

abbrev pub invariant-loop-count : goal.invariant-loop-count
invariant-loop-count l = NoneFrom (map (λ word. word.now) l.fn.words) l.count
