-- Which of the snapshots are asked for.
use Rattle.std.specs.Prelude.{ℕ, ◌-◌, ◌&&◌, Bool, true, List, [], length, drop, filter, Option, None, Some, unwrap_or}
use Rattle.std.specs.List.{list_any}
use Rattle.std.specs.Option.{option_map_or}
use Rattle.std.specs.Str.{bytes_eq}
use Rattle.keep_named.specs.Rows.{RowData, row_view}
use Rattle.keep_named.specs.declared.listed_snapshot.ListedSnapshot.{ListedSnapshot}
use Rattle.keep_words.specs.Read.{text_of}
use Rattle.keep_words.specs.declared.command.Chosen.{Chosen}

-- a text that isn't given takes each list of texts, and one that is those that have it
abbrev pub has : Option (List ℕ) → List (List ℕ) → Bool
has text texts = option_map_or (λ t. list_any (λ given. bytes_eq given t) texts) text true

-- a snapshot without a host has the empty one
abbrev pub is_of_host : Option (List ℕ) → RowData → Bool
is_of_host host row = option_map_or (λ h. bytes_eq (unwrap_or row.snap.hostname []) h) host true

-- each given word takes the snapshot: its host is this one, the tag and the path are among its own
abbrev pub is_chosen : Chosen → RowData → Bool
is_chosen chosen row =
    is_of_host (text_of chosen.host) row && has (text_of chosen.tag) row.snap.tags && has (text_of chosen.path) row.snap.paths

-- the last so many, or all
abbrev pub last_of : Option ℕ → List ListedSnapshot → List ListedSnapshot
last_of None rows = rows
last_of (Some count) rows = drop (length rows - count) rows

-- the rows that are asked for, in their order
abbrev pub chosen_of : Chosen → Option ℕ → List ListedSnapshot → List ListedSnapshot
chosen_of chosen latest rows = last_of latest (filter (λ row. is_chosen chosen (row_view row)) rows)
