-- What a pattern matches in snapshots.
use Rattle.std.specs.Prelude.{◌≡◌, ℕ, List, [], ◌∷◌, map, codes, string_bytes}
use Rattle.std.specs.List.{flat_map}
use Rattle.serde_json.specs.Data.{Data, string, object, member, no_members}
use Rattle.keep_names.specs.declared.id.Id.{Id}
use Rattle.keep_docs.specs.Fields.{id_data}
use Rattle.keep_repo.specs.Repository.{Repository}
use Rattle.keep_journal.specs.Journal.{Journal}
use Rattle.keep_patterns.specs.Parsing.{PatternData}
use Rattle.keep_nodes.specs.Choosing.{matched}
use Rattle.keep_nodes.specs.Entries.{EntryData}
use Rattle.keep_named.specs.declared.listed_snapshot.ListedSnapshot.{ListedSnapshot}
use Rattle.keep_tables.specs.declared.table.Side.{Side}
use Rattle.keep_tables.specs.declared.table.Side.TheVariants.{Left}
use Rattle.keep_rows.specs.Values.{short_id}
use Rattle.keep_looks.specs.Shown.{AreListed, nodes_had, unlisted_of}
use Rattle.keep_looks.specs.declared.path_rows.FoundPaths.{FoundPaths}
use Rattle.keep_looks.specs.declared.found_row.FoundRow.{FoundRow}

-- ---- the row: its cells in a table, and its JSON object with keys in byte order

abbrev pub found_sides : List Side
found_sides = Left ∷ Left ∷ []

abbrev pub found_head : List (List ℕ)
found_head = codes "ID" ∷ codes "Path" ∷ []

abbrev pub found_cells : FoundRow → List (List ℕ)
found_cells row = short_id row.snapshot ∷ string_bytes row.path ∷ []

abbrev pub found_data : FoundRow → Data
found_data row =
    object
    (member (codes "path") (string (string_bytes row.path))
    (member (codes "snapshot") (id_data row.snapshot) no_members))

-- ---- what is found

pub record PathData : Type 0 where
  pub snapshot : Id
  pub path : List ℕ

-- what a `FoundRow` says
abbrev pub path_data : FoundRow → PathData
path_data row = record { snapshot = row.snapshot; path = string_bytes row.path }

-- what a node is found as
abbrev pub path_of : Id → EntryData → PathData
path_of snapshot entry = record { snapshot = snapshot; path = entry.path }

-- those of a snapshot's nodes that the pattern matches, in their order
unfoldable pub paths_in : PatternData → Id → List EntryData → List PathData
paths_in pattern snapshot entries = map (path_of snapshot) (matched (pattern ∷ []) entries)

abbrev pub paths_of : Repository → PatternData → Id → List PathData
paths_of r pattern snapshot = paths_in pattern snapshot (nodes_had r snapshot)

abbrev pub AreRowsFound : Repository → PatternData → List ListedSnapshot → FoundPaths → Type 0
AreRowsFound r pattern rows found =
    (map path_data found.rows.items ≡ flat_map (λ (row : ListedSnapshot). paths_of r pattern row.id) rows)
    × (found.unlisted.items ≡ flat_map (λ (row : ListedSnapshot). unlisted_of r row.id) rows)

-- What the pattern matches in each snapshot that can be read, the earlier ones first; and those that can't be listed.
abbrev pub AreFound : Journal → Repository → PatternData → FoundPaths → Type 0
AreFound j r pattern found = (rows : List ListedSnapshot) × AreListed j r rows × AreRowsFound r pattern rows found
