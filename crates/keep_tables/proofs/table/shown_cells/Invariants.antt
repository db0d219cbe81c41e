use Rattle.std.proofs.Common.{◌≡◌, take, map, string_bytes}
use Rattle.keep_tables.specs.Shown.{shown_text}
use Rattle.keep_tables.proofs.table.shown_cells.Given as goal

abbrev pub invariant-loop-cell : goal.invariant-loop-cell
invariant-loop-cell l = map string_bytes l.made.items ≡ map shown_text (map string_bytes (take l.cell-index l.cells))
