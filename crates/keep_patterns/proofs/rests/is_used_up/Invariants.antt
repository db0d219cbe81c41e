use Rattle.std.proofs.Common.{◌≡◌, map, drop}
use Rattle.keep_patterns.specs.Parsing.{pattern_view}
use Rattle.keep_patterns.specs.Steps.{takes_from}
use Rattle.keep_patterns.proofs.rests.is_used_up.Given as goal

abbrev pub invariant-loop-index : goal.invariant-loop-index
invariant-loop-index l = takes_from l.name l.index (map pattern_view (drop l.index l.patterns)) l.ahead ≡ takes_from l.name 0 (map pattern_view l.patterns) l.rests
