-- Which files aren't read again (restic takes them of its parent snapshot, the last of the same host and paths).
use Rattle.std.specs.Prelude.{◌≡◌, ℕ, ◌&&◌, Bool, List, [], map, filter, Option, None, Some, unwrap_or}
use Rattle.std.specs.Cmp.Lexicographic.{pointwise}
use Rattle.std.specs.List.{last_or}
use Rattle.std.specs.Str.{bytes_eq}
use Rattle.keep_acts.specs.Shown.{shown_by}
use Rattle.keep_backup.specs.Backup.{FactsData}
use Rattle.keep_backups.specs.Known.{KnownData, known_of}
use Rattle.keep_ledger.specs.LedgerState.{LedgerState}
use Rattle.keep_looks.specs.Shown.{AreListed}
use Rattle.keep_named.specs.Rows.{RowData, row_view}
use Rattle.keep_named.specs.declared.listed_snapshot.ListedSnapshot.{ListedSnapshot}
use Rattle.keep_names.specs.declared.id.Id.{Id}
use Rattle.keep_snap.specs.Snap.{SnapData}

-- whether a snapshot is of this host and of just these paths, in their order; one that says no host has the empty one
abbrev pub is_of : FactsData → SnapData → Bool
is_of facts snap = bytes_eq (unwrap_or snap.hostname []) facts.host && pointwise bytes_eq snap.paths facts.paths

-- the last of the rows whose snapshot is of this host and these paths
abbrev pub last_of : FactsData → List RowData → Option Id
last_of facts rows = last_or None (map (λ (row : RowData). row.id) (filter (λ (row : RowData). is_of facts row.snap) rows))

-- what is known at a path by this snapshot of a book, if there is one
abbrev pub known_in : LedgerState → Option Id → List ℕ → Option KnownData
known_in book None path = None
known_in book (Some snapshot) path = known_of (shown_by book).repo snapshot path

-- just the files are known that the last snapshot of this host and these paths has
pub record AreUnchanged (book : LedgerState) (facts : FactsData) (known : List ℕ → Option KnownData) : Type 0 where
  pub rows : List ListedSnapshot
  pub listed : AreListed book.events (shown_by book).repo rows
  pub each : (path : List ℕ) → known path ≡ known_in book (last_of facts (map row_view rows)) path
