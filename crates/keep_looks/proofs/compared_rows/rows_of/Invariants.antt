use Rattle.std.proofs.Common.{◌≡◌, map, take}
use Rattle.keep_nodes.specs.Lent.{difference_view}
use Rattle.keep_looks.specs.Nodes.{difference_due, difference_shown}
use Rattle.keep_looks.proofs.compared_rows.rows_of.Given as goal

abbrev pub invariant-loop-difference : goal.invariant-loop-difference
invariant-loop-difference l =
    map difference_shown l.rows.items ≡ map difference_due (map difference_view (take l.difference-index l.found))
