use Rattle.std.proofs.Common.{◌≡◌, filter, take}
use Rattle.keep_named.specs.Rows.{row_view}
use Rattle.keep_looks.specs.Chosen as spec
use Rattle.keep_looks.proofs.chosen_snapshots.chosen_of.Given as goal

abbrev pub invariant-loop-row : goal.invariant-loop-row
invariant-loop-row l = l.found.items ≡ filter (λ row. spec.is_chosen l.chosen (row_view row)) (take l.row-index l.rows)
