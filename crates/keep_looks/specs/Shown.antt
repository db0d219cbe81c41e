-- What is shown of snapshots: a row for each, and which of them can't be listed.
use Rattle.std.specs.Prelude.{◌≡◌, ◌⊎◌, ℕ, ℤ, pos, List, [], ◌∷◌, map, IsPermutation, Option, Result, Ok, Err, string_bytes, unwrap_or}
use Rattle.std.specs.List.{flat_map}
use Rattle.std.specs.List.Sorted.{IsSortedByKey}
use Rattle.keep_names.specs.declared.id.Id.{Id}
use Rattle.keep_repo.specs.Repository.{Repository}
use Rattle.keep_journal.specs.Journal.{Journal}
use Rattle.keep_snap.specs.Time.{moment_in}
use Rattle.keep_read.specs.declared.restore_error.RestoreError.{RestoreError}
use Rattle.keep_nodes.specs.Entries.{EntryData}
use Rattle.keep_nodes.specs.Listed.{nodes_due}
use Rattle.keep_nodes.specs.Tallies.{tally_of}
use Rattle.keep_nodes.specs.declared.tally.Tally.{Tally}
use Rattle.keep_named.specs.Meaning.{named_due}
use Rattle.keep_named.specs.Rows.{RowData, moment_cmp, row_view, rows_in}
use Rattle.keep_named.specs.declared.named_error.NamedError.{NamedError}
use Rattle.keep_named.specs.declared.named_error.NamedError.TheVariants.{Memory}
use Rattle.keep_named.specs.declared.listed_snapshot.ListedSnapshot as listed
use Rattle.keep_rows.specs.declared.snapshot.SnapshotRow.{SnapshotRow}
use Rattle.keep_words.specs.declared.command.Chosen.{Chosen}
use Rattle.keep_looks.specs.Chosen.{chosen_of}
use Rattle.keep_looks.specs.declared.shown_snapshots.ShownSnapshots.{ShownSnapshots}
use Rattle.keep_looks.specs.declared.unlisted.Unlisted.{Unlisted}

-- what a row says of a snapshot, but for the clock of the zone
pub record ShownData : Type 0 where
  pub name : Id
  pub time : List ℕ
  pub moment : ℤ
  pub host : List ℕ
  pub paths : List (List ℕ)
  pub tags : List (List ℕ)
  pub files : ℕ
  pub size : ℕ
  pub change : Option ℕ

-- what a `SnapshotRow` says
abbrev pub row_data : SnapshotRow → ShownData
row_data row = record {
  name = row.name;
  time = string_bytes row.time;
  moment = row.at.moment;
  host = string_bytes row.host;
  paths = map string_bytes row.paths.items;
  tags = map string_bytes row.tags.items;
  files = row.files;
  size = row.size;
  change = row.change;
}

-- the nodes that a list has, none where it can't be had
abbrev pub had : Result (List EntryData) RestoreError → List EntryData
had (Ok entries) = entries
had (Err why) = []

-- the nodes of a snapshot, none where it can't be listed
unfoldable pub nodes_had : Repository → Id → List EntryData
nodes_had r snapshot = had (nodes_due r snapshot)

-- the snapshot and why it can't be listed
abbrev pub unlisted_by : Id → Result (List EntryData) RestoreError → List Unlisted
unlisted_by snapshot (Ok entries) = []
unlisted_by snapshot (Err why) = record { snapshot = snapshot; why = why } ∷ []

unfoldable pub unlisted_of : Repository → Id → List Unlisted
unlisted_of r snapshot = unlisted_by snapshot (nodes_due r snapshot)

-- the moment of a snapshot's time; each that was read has one
unfoldable pub moment_due : List ℕ → ℤ
moment_due time = unwrap_or (moment_in time) (pos 0)

-- the row of a snapshot that has this
abbrev pub row_with : Tally → RowData → ShownData
row_with tally row = record {
  name = row.id;
  time = row.snap.time;
  moment = moment_due row.snap.time;
  host = unwrap_or row.snap.hostname [];
  paths = row.snap.paths;
  tags = row.snap.tags;
  files = tally.files;
  size = tally.bytes;
  change = row.change;
}

-- the row of a snapshot: how many files it has by path, and how many bytes these have
abbrev pub row_due : Repository → RowData → ShownData
row_due r row = row_with (tally_of r (nodes_had r row.id)) row

-- The snapshots that can be read, by the instants of their times, then by name.
abbrev pub AreListed : Journal → Repository → List listed.ListedSnapshot → Type 0
AreListed j r rows = IsSortedByKey row_view moment_cmp rows × IsPermutation (rows_in j r) (map row_view rows)

-- Of these rows those that are asked for are shown, and those of them that can't be listed are named.
abbrev pub AreRowsShown : Repository → List listed.ListedSnapshot → ShownSnapshots → Type 0
AreRowsShown r rows shown =
    (map row_data shown.rows.items ≡ map (row_due r) (map row_view rows))
    × (shown.unlisted.items ≡ flat_map (λ (row : listed.ListedSnapshot). unlisted_of r row.id) rows)

-- Of the snapshots that can be read those that are asked for are shown.
abbrev pub AreShown : Journal → Repository → Chosen → Option ℕ → ShownSnapshots → Type 0
AreShown j r chosen latest shown =
    (rows : List listed.ListedSnapshot) × AreListed j r rows × AreRowsShown r (chosen_of chosen latest rows) shown

-- What a text names, of the snapshots that can be read; want of memory may come in its place.
abbrev pub IsNamed : Journal → Repository → List ℕ → Result Id NamedError → Type 0
IsNamed j r text result =
    (result ≡ Err Memory) ⊎ ((rows : List listed.ListedSnapshot) × AreListed j r rows × (named_due r j rows text ≡ result))
