-- No number of a row's value is a float.
use Rattle.std.proofs.Common.{◌≡◌, ℕ, false, List, [], ◌∷◌, map, Option, Some, None, option_map, refl, string_bytes}
use Rattle.std.specs.List.{AllByRecursion}
use Rattle.serde_json.specs.Data.{Data, string}
use Rattle.serde_json.specs.View.{items_of}
use Rattle.serde_json.specs.Written.{has_float, items_have_float}
use Rattle.keep_rows.specs.Listings.{finding_data, node_data, snapshot_data}
use Rattle.keep_rows.specs.Values.{maybe_number, maybe_text, utc_of}
use Rattle.keep_rows.specs.declared.finding_row.FindingRow.{FindingRow}
use Rattle.keep_rows.specs.declared.node_row.NodeRow.{NodeRow}
use Rattle.keep_rows.specs.declared.snapshot.SnapshotRow.{SnapshotRow}

pub maybe_number-whole : (n : Option ℕ) → has_float (maybe_number n) ≡ false
maybe_number-whole None = refl
maybe_number-whole (Some n) = refl

pub maybe_text-whole : (text : Option (List ℕ)) → has_float (maybe_text text) ≡ false
maybe_text-whole None = refl
maybe_text-whole (Some text) = refl

pub texts-whole : (texts : List (List ℕ)) → items_have_float (items_of (map (λ text. string text) texts)) ≡ false
texts-whole [] = refl
texts-whole (text ∷ texts) = texts-whole texts

pub rows-whole : {A : Type 0} (f : A → Data) (rows : List A) → AllByRecursion (λ row. has_float (f row) ≡ false) rows → items_have_float (items_of (map f rows)) ≡ false
rows-whole f [] h = refl
rows-whole f (row ∷ rows) h = rw (h.0, rows-whole f rows h.1) refl

pub finding-whole : (row : FindingRow) → has_float (finding_data row) ≡ false
finding-whole row = rw (maybe_number-whole row.number) refl

pub node-whole : (row : NodeRow) → has_float (node_data row) ≡ false
node-whole row =
    rw (maybe_text-whole (option_map utc_of row.at), maybe_number-whole row.size, maybe_text-whole (option_map string_bytes row.target)) refl

pub snapshot-whole : (row : SnapshotRow) → has_float (snapshot_data row) ≡ false
snapshot-whole row =
    rw (maybe_number-whole row.change, texts-whole (map string_bytes row.paths.items), texts-whole (map string_bytes row.tags.items)) refl
