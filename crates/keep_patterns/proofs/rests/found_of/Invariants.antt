use Rattle.std.proofs.Common.{◌≡◌, ◌++◌, map, drop}
use Rattle.keep_patterns.specs.Parsing.{pattern_view}
use Rattle.keep_patterns.specs.Steps.{found_from}
use Rattle.keep_patterns.proofs.rests.found_of.Given as goal

abbrev pub invariant-loop-index : goal.invariant-loop-index
invariant-loop-index l = l.left.items ++ found_from l.name l.index (map pattern_view (drop l.index l.patterns)) l.ahead ≡ found_from l.name 0 (map pattern_view l.patterns) l.rests
