use Rattle.std.proofs.Common.{◌≡◌, take, map}
use Rattle.keep_tables.specs.Lines.{cells_of, column_width}
use Rattle.keep_tables.proofs.table.column_width.Given as goal

abbrev pub invariant-loop-cells : goal.invariant-loop-cells
invariant-loop-cells l = l.widest ≡ column_width (map cells_of (take l.cells-index l.lines)) l.k
