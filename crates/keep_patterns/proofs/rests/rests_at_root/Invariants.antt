use Rattle.std.proofs.Common.{◌≡◌, ◌++◌, map, drop}
use Rattle.keep_patterns.specs.Parsing.{pattern_view}
use Rattle.keep_patterns.specs.Steps.{opened_from}
use Rattle.keep_patterns.proofs.rests.rests_at_root.Given as goal

abbrev pub invariant-loop-index : goal.invariant-loop-index
invariant-loop-index l = l.left.items ++ opened_from l.index (map pattern_view (drop l.index l.patterns)) ≡ opened_from 0 (map pattern_view l.patterns)
