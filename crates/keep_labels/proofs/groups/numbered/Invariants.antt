use Rattle.std.proofs.Common.{◌≡◌, ◌≤◌, ◌++◌, None, drop, map, option_map}
use Rattle.keep_labels.specs.Walk.{seen_view}
use Rattle.keep_labels.proofs.Numbered.{numbered, row_pair}
use Rattle.keep_labels.proofs.groups.numbered.Given as goal

-- the rows there and those of what is left are those of all; there are no more groups than snapshots
abbrev pub invariant-loop-facts : goal.invariant-loop-facts
invariant-loop-facts l = record {
  rest : map row_pair l.items.items
      ++ numbered l.group (option_map seen_view l.last) (map seen_view (drop l.facts-index l.sorted))
      ≡ numbered 0 None (map seen_view l.sorted);
  small : l.group ≤ l.facts-index;
}
