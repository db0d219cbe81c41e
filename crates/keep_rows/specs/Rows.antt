-- Lists of rows, as a table and as a document.
use Rattle.std.specs.Prelude.{ℕ, List, [], ◌∷◌, ◌++◌, map}
use Rattle.serde_json.specs.Data.{Data}
use Rattle.serde_json.specs.Written.{compact_text}
use Rattle.keep_docs.specs.Lists.{list_data}
use Rattle.keep_tables.specs.Lines.{TableData}
use Rattle.keep_tables.specs.Shown.{shown_text}
use Rattle.keep_tables.specs.declared.table.Side.{Side}

-- the head and a line of cells for each row, each cell as it is shown
abbrev pub rows_table : List Side → List (List ℕ) → List (List (List ℕ)) → TableData
rows_table sides head rows = record { sides = sides; lines = map (map shown_text) (head ∷ rows) }

-- the rows as one JSON document: a list of their values, with a line end behind it
abbrev pub document_text : List Data → List ℕ
document_text values = compact_text (list_data values) ++ 10 ∷ []
