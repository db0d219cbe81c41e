use Rattle.std.proofs.Common.{◌≡◌, [], length, map, option_map, reverse}
use Rattle.keep_patterns.specs.Parsing.{pattern_view}
use Rattle.keep_nodes.specs.Choosing.{lent_view}
use Rattle.keep_nodes.specs.Entries.{entry_view}
use Rattle.keep_restores.specs.Choosing.{chosen_onto, first}
use Rattle.keep_restores.proofs.chosen_entries.chosen_backward.Given as goal

-- what was found stands behind what is left
abbrev pub invariant-loop-entry : goal.invariant-loop-entry
invariant-loop-entry l =
    let patterns = map pattern_view l.include in
    let behind = map lent_view (reverse l.found.items) in record {
      same : chosen_onto patterns (map entry_view l.rest) behind ≡ chosen_onto patterns (map entry_view l.entries) [];
      next : option_map lent_view l.next ≡ first behind;
    }

abbrev pub decreases-loop-entry : goal.decreases-loop-entry
decreases-loop-entry l = length l.rest
