use Rattle.std.proofs.Common.{◌≡◌, take, map, string_bytes}
use Rattle.std.specs.List.{flat_map}
use Rattle.keep_tables.specs.Lines.{cells_of, line_text}
use Rattle.keep_tables.proofs.table.lines_text.Given as goal

abbrev pub invariant-loop-cells : goal.invariant-loop-cells
invariant-loop-cells l =
    string_bytes l.text ≡ flat_map (line_text l.sides l.widths) (map cells_of (take l.cells-index l.lines))
