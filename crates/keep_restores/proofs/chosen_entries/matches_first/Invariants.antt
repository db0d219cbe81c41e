use Rattle.std.proofs.Common.{◌≡◌, ◌≤◌, length, map}
use Rattle.keep_patterns.specs.Parsing.{pattern_view}
use Rattle.keep_restores.specs.Choosing.{matches_first}
use Rattle.keep_restores.proofs.chosen_entries.matches_first.Given as goal

-- no pattern matches more of the names
abbrev pub invariant-loop-count : goal.invariant-loop-count
invariant-loop-count l =
    let patterns = map pattern_view l.patterns in record {
      inside : l.count ≤ length l.names;
      same : matches_first patterns l.names l.count ≡ matches_first patterns l.names (length l.names);
    }

abbrev pub decreases-loop-count : goal.decreases-loop-count
decreases-loop-count l = l.count
