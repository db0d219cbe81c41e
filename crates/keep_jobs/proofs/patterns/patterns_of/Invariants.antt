use Rattle.std.proofs.Common.{◌≡◌, ◌++◌, drop, map, option_map, string_bytes}
use Rattle.keep_patterns.specs.Parsing.{pattern_view}
use Rattle.keep_jobs.specs.Patterns.{patterns_in}
use Rattle.keep_jobs.proofs.patterns.patterns_of.Given as goal

abbrev pub invariant-loop-text : goal.invariant-loop-text
invariant-loop-text l =
    option_map (λ rest. map pattern_view l.patterns.items ++ rest)
    (patterns_in (map string_bytes (drop l.text-index l.texts))) ≡ patterns_in (map string_bytes l.texts)
