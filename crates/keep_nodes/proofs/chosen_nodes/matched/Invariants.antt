use Rattle.std.proofs.Common.{◌≡◌, map, take}
use Rattle.keep_patterns.specs.Parsing.{pattern_view}
use Rattle.keep_nodes.specs.Choosing as spec
use Rattle.keep_nodes.specs.Choosing.{lent_view}
use Rattle.keep_nodes.specs.Entries.{entry_view}
use Rattle.keep_nodes.proofs.chosen_nodes.matched.Given as goal

abbrev pub invariant-loop-entry : goal.invariant-loop-entry
invariant-loop-entry l =
    map lent_view l.found.items ≡ spec.matched (map pattern_view l.patterns) (map entry_view (take l.entry-index l.entries))
