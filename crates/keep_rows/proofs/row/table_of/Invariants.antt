use Rattle.std.proofs.Common.{◌≡◌, map, take}
use Rattle.keep_rows.specs.Rows.{rows_table}
use Rattle.keep_rows.proofs.row.table_of.Given as goal

abbrev pub invariant-loop-row : goal.invariant-loop-row
invariant-loop-row g l =
    l.table ≡ rows_table g.R.Row.row_sides g.R.Row.row_head (map g.R.Row.row_cells (take l.row-index l.rows))
