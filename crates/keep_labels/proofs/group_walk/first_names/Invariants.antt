use Rattle.std.proofs.Common.{◌≡◌, ◌≤◌, ◌++◌, None, drop, map}
use Rattle.keep_labels.proofs.Chosen.{chosen}
use Rattle.keep_labels.proofs.Walked.{row_group, row_name, row_turn}
use Rattle.keep_labels.proofs.group_walk.first_names.Given as goal

-- the names there and those of what is left are those of all; as many periods were seen as snapshots at most
abbrev pub invariant-loop-row : goal.invariant-loop-row
invariant-loop-row l = record {
  rest : l.names.items
      ++ map row_name (chosen row_group (row_turn l.counted) l.most.number l.last l.count (drop l.row-index l.row-items))
      ≡ map row_name (chosen row_group (row_turn l.counted) l.most.number None 0 l.row-items);
  small : l.count ≤ l.row-index;
}
