use Rattle.std.proofs.Common.{◌≡◌, Some, map, take}
use Rattle.keep_patterns.specs.Parsing.{pattern_of, pattern_view}
use Rattle.keep_run.proofs.meant_words.patterns_of.Given as goal

abbrev pub invariant-loop-word : goal.invariant-loop-word
invariant-loop-word l =
    map (λ pattern. Some (pattern_view pattern)) l.patterns.items ≡ map (λ word. pattern_of word.now) (take l.word-index l.words)
