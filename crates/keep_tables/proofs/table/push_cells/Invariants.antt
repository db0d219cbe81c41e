use Rattle.std.proofs.Common.{◌≡◌, ◌++◌, drop, map, [], string_bytes}
use Rattle.keep_tables.specs.Lines.{cells_text}
use Rattle.keep_tables.proofs.table.push_cells.Given as goal

abbrev pub invariant-loop-k : goal.invariant-loop-k
invariant-loop-k l =
    string_bytes l.text ++ cells_text l.sides l.widths l.k (string_bytes l.gap) (map string_bytes (drop l.k l.cells))
    ≡ string_bytes l.initial.text ++ cells_text l.sides l.widths 0 [] (map string_bytes l.cells)
