use Rattle.std.proofs.Common.{◌≡◌, map, drop}
use Rattle.keep_patterns.specs.Parsing.{pattern_view}
use Rattle.keep_patterns.specs.Without as spec
use Rattle.keep_restores.proofs.chosen_entries.is_matched.Given as goal

abbrev pub invariant-loop-pattern : goal.invariant-loop-pattern
invariant-loop-pattern l = spec.is_matched (map pattern_view (drop l.pattern-index l.patterns)) l.names ≡ spec.is_matched (map pattern_view l.patterns) l.names
