use Rattle.std.proofs.Common.{◌≡◌, map, take}
use Rattle.keep_nodes.specs.Choosing.{lent_view}
use Rattle.keep_looks.specs.Nodes.{node_due, node_shown}
use Rattle.keep_looks.proofs.nodes.rows_below.Given as goal

abbrev pub invariant-loop-entry : goal.invariant-loop-entry
invariant-loop-entry l =
    (l.lengths ≡ l.initial.lengths)
    × (map node_shown l.rows.items ≡ map (node_due l.initial.lengths) (map lent_view (take l.entry-index l.entry-items)))
