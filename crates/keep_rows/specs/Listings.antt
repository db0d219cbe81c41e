-- What is listed of snapshots, nodes, findings and differences: the cells of each row, and its JSON object with keys in
-- byte order.
use Rattle.std.specs.Prelude.{ℕ, List, [], ◌∷◌, ◌++◌, codes, map, Option, None, Some, option_map, string_bytes}
use Rattle.std.specs.Fmt.{decimal}
use Rattle.serde_json.specs.Data.{Data, string, object, member, no_members}
use Rattle.keep_names.specs.Id.{id_text}
use Rattle.keep_names.specs.declared.id.Id.{Id}
use Rattle.keep_docs.specs.Fields.{id_data}
use Rattle.keep_docs.specs.Lists.{texts_data}
use Rattle.keep_tables.specs.Sizes.{size_text}
use Rattle.keep_tables.specs.declared.table.Side.{Side}
use Rattle.keep_tables.specs.declared.table.Side.TheVariants.{Left, Right}
use Rattle.keep_rows.specs.Modes.{mode_text}
use Rattle.keep_rows.specs.Values.{joined, local_of, maybe_number, maybe_text, number_cell, number_data, short_id, size_cell, utc_of, when_cell}
use Rattle.keep_rows.specs.declared.difference.Difference.{Difference}
use Rattle.keep_rows.specs.declared.difference.Difference.TheVariants.{Added, Removed, Modified}
use Rattle.keep_rows.specs.declared.difference.DifferenceRow.{DifferenceRow}
use Rattle.keep_rows.specs.declared.finding_row.FindingRow.{FindingRow}
use Rattle.keep_rows.specs.declared.node_row.NodeRow.{NodeRow}
use Rattle.keep_rows.specs.declared.snapshot.SnapshotRow.{SnapshotRow}

-- ---- snapshots

abbrev pub snapshot_sides : List Side
snapshot_sides = Left ∷ Left ∷ Left ∷ Left ∷ Left ∷ Right ∷ Right ∷ Right ∷ []

abbrev pub snapshot_head : List (List ℕ)
snapshot_head =
    codes "ID" ∷ codes "Time" ∷ codes "Host" ∷ codes "Paths" ∷ codes "Tags" ∷ codes "Files" ∷ codes "Size"
    ∷ codes "Change" ∷ []

abbrev pub snapshot_cells : SnapshotRow → List (List ℕ)
snapshot_cells row =
    short_id row.name ∷ local_of row.at ∷ string_bytes row.host ∷ joined (map string_bytes row.paths.items)
    ∷ joined (map string_bytes row.tags.items) ∷ decimal row.files ∷ size_text row.size ∷ number_cell row.change ∷ []

abbrev pub snapshot_data : SnapshotRow → Data
snapshot_data row =
    object
    (member (codes "change") (maybe_number row.change)
    (member (codes "files") (number_data row.files)
    (member (codes "host") (string (string_bytes row.host))
    (member (codes "id") (id_data row.name)
    (member (codes "paths") (texts_data (map string_bytes row.paths.items))
    (member (codes "size") (number_data row.size)
    (member (codes "tags") (texts_data (map string_bytes row.tags.items))
    (member (codes "time") (string (string_bytes row.time)) no_members))))))))

-- ---- nodes

abbrev pub node_sides : List Side
node_sides = Left ∷ Left ∷ Right ∷ Left ∷ Left ∷ []

abbrev pub node_head : List (List ℕ)
node_head = codes "Mode" ∷ codes "Owner" ∷ codes "Size" ∷ codes "Time" ∷ codes "Path" ∷ []

-- a link's target behind it
abbrev pub arrow : Option (List ℕ) → List ℕ
arrow None = []
arrow (Some target) = codes " -> " ++ target

abbrev pub node_cells : NodeRow → List (List ℕ)
node_cells row =
    mode_text row.mode ∷ string_bytes row.owner ∷ size_cell row.size ∷ when_cell row.at
    ∷ (string_bytes row.path ++ arrow (option_map string_bytes row.target)) ∷ []

abbrev pub node_data : NodeRow → Data
node_data row =
    object
    (member (codes "mode") (number_data row.mode)
    (member (codes "mtime") (maybe_text (option_map utc_of row.at))
    (member (codes "owner") (string (string_bytes row.owner))
    (member (codes "path") (string (string_bytes row.path))
    (member (codes "permissions") (string (mode_text row.mode))
    (member (codes "size") (maybe_number row.size)
    (member (codes "target") (maybe_text (option_map string_bytes row.target)) no_members)))))))

-- ---- findings

abbrev pub finding_sides : List Side
finding_sides = Left ∷ Left ∷ Right ∷ []

abbrev pub finding_head : List (List ℕ)
finding_head = codes "Finding" ∷ codes "ID" ∷ codes "Refusal" ∷ []

abbrev pub finding_cells : FindingRow → List (List ℕ)
finding_cells row = string_bytes row.word ∷ id_text row.id ∷ number_cell row.number ∷ []

abbrev pub finding_data : FindingRow → Data
finding_data row =
    object
    (member (codes "finding") (string (string_bytes row.word))
    (member (codes "id") (id_data row.id)
    (member (codes "refusal") (maybe_number row.number) no_members)))

-- ---- differences

abbrev pub difference_sides : List Side
difference_sides = Left ∷ Left ∷ []

abbrev pub difference_head : List (List ℕ)
difference_head = codes "" ∷ codes "Path" ∷ []

abbrev pub sign : Difference → List ℕ
sign Added = codes "+"
sign Removed = codes "-"
sign Modified = codes "M"

abbrev pub difference_word : Difference → List ℕ
difference_word Added = codes "added"
difference_word Removed = codes "removed"
difference_word Modified = codes "modified"

abbrev pub difference_cells : DifferenceRow → List (List ℕ)
difference_cells row = sign row.difference ∷ string_bytes row.path ∷ []

abbrev pub difference_data : DifferenceRow → Data
difference_data row =
    object
    (member (codes "difference") (string (difference_word row.difference))
    (member (codes "path") (string (string_bytes row.path)) no_members))
