-- Lines of cells under one another.
use Rattle.std.specs.Prelude.{ℕ, ◌+◌, ◌-◌, max, false, List, [], ◌∷◌, ◌++◌, codes, fold, length, map, String, string_bytes, slice_index, slice_index_or, replicate, if◌then◌else◌, ◌==◌}
use Rattle.std.specs.Global.{Global, Vec}
use Rattle.std.specs.List.{flat_map, range_with_len}
use Rattle.std.specs.Str.{chars}
use Rattle.unicode_width.specs.Width.{str_width}
use Rattle.keep_tables.specs.declared.table.Side.{Side}
use Rattle.keep_tables.specs.declared.table.Side.TheVariants.{Left, Right}

-- the side on which each column's cells stand, and the cells of each line, the head's first
pub record TableData : Type 0 where
  pub sides : List Side
  pub lines : List (List (List ℕ))

-- the cells of a line
abbrev pub cells_of : Vec (String Global) → List (List ℕ)
cells_of cells = map string_bytes cells.items

-- the columns that a text takes in a terminal
abbrev pub width : List ℕ → ℕ
width cell = str_width false (chars cell)

-- the width of a line's cell in column k. A line that is too short has an empty one
abbrev pub cell_width : ℕ → List (List ℕ) → ℕ
cell_width k cells = width (slice_index_or cells k [])

-- a column is as wide as its widest cell
abbrev pub column_width : List (List (List ℕ)) → ℕ → ℕ
column_width lines k = fold (λ widest cells. max widest (cell_width k cells)) 0 lines

-- the columns are those that have a side
abbrev pub widths_of : TableData → List ℕ
widths_of table = map (column_width table.lines) (range_with_len 0 (length table.sides))

-- spaces
abbrev pub spaces : ℕ → List ℕ
spaces count = replicate count 32

-- how many of a cell's free spaces stand before it
abbrev pub spaces_before : Side → ℕ → ℕ
spaces_before Left free = 0
spaces_before Right free = free

-- a cell behind a gap. An empty one leaves the gap to the next cell, so that no gap ends a line
abbrev pub cell_text : List ℕ → List ℕ → List ℕ
cell_text gap cell = if length cell == 0 then [] else gap ++ cell

abbrev pub gap_left : List ℕ → List ℕ → List ℕ
gap_left gap cell = if length cell == 0 then gap else []

-- the cells of a line from column k on, behind a gap. Two spaces part columns
abbrev pub cells_text : List Side → List ℕ → ℕ → List ℕ → List (List ℕ) → List ℕ
cells_text sides widths k gap [] = []
cells_text sides widths k gap (cell ∷ cells) =
    let free = slice_index widths k - width cell in
    let before = spaces_before (slice_index_or sides k Left) free in
    let gap_before = gap ++ spaces before in
    let gap_after = gap_left gap_before cell ++ (spaces (free - before) ++ codes "  ") in
    cell_text gap_before cell ++ cells_text sides widths (k + 1) gap_after cells

-- a line, with its end
abbrev pub line_text : List Side → List ℕ → List (List ℕ) → List ℕ
line_text sides widths cells = cells_text sides widths 0 [] cells ++ 10 ∷ []

-- all lines
abbrev pub table_text : TableData → List ℕ
table_text table = flat_map (line_text table.sides (widths_of table)) table.lines
