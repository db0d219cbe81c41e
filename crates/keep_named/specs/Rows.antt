-- The snapshots of a repository under its history, in the order of their moments.
use Rattle.std.specs.Prelude.{ℕ, ℤ, List, map, Option, option_map}
use Rattle.std.specs.FinMap as finite
use Rattle.std.specs.List.{filter_map}
use Rattle.std.specs.Ordering.{int_cmp, on, then_cmp}
use Rattle.std.specs.declared.cmp.Ordering.{Ordering}
use Rattle.keep_names.specs.Orders.{id_cmp}
use Rattle.keep_names.specs.declared.id.Id.{Id}
use Rattle.keep_repo.specs.Repository.{Repository}
use Rattle.keep_snap.specs.Snap.{SnapData, snap_view}
use Rattle.keep_snap.specs.Time.{time_in}
use Rattle.keep_snap.specs.declared.snap.Snap.{Snap}
use Rattle.keep_snap.specs.declared.time.Time.{Time}
use Rattle.keep_journal.specs.Journal.{Journal}
use Rattle.keep_catalog.specs.Files.{snaps_in}
use Rattle.keep_named.specs.Adding.{adding}
use Rattle.keep_named.specs.declared.listed_snapshot.ListedSnapshot.{ListedSnapshot}

-- a snapshot's name, the instant of its time, what it says, and the last kept change that adds it
pub record RowData : Type 0 where
  pub id : Id
  pub instant : ℤ
  pub snap : SnapData
  pub change : Option ℕ

-- what a `ListedSnapshot` says
abbrev pub row_view : ListedSnapshot → RowData
row_view row = record { id = row.id; instant = row.instant; snap = snap_view row.snap.now; change = row.change }

-- a snapshot with its name, without where it lies in memory
abbrev pub named_view : Id × Snap → Id × SnapData
named_view named = (named.0, snap_view named.1)

-- the row of a snapshot at a time
abbrev pub row_at : Journal → Id × SnapData → Time → RowData
row_at j named time = record { id = named.0; instant = time.instant; snap = named.1; change = adding j named.0 }

-- the row of a snapshot; each that was read has a time
abbrev pub row_of : Journal → Id × SnapData → Option RowData
row_of j named = option_map (row_at j named) (time_in named.1.time)

-- the rows of snapshots
abbrev pub rows_of : Journal → List (Id × SnapData) → List RowData
rows_of j snaps = filter_map (row_of j) snaps

-- the rows of the snapshots that can be read, by name
unfoldable pub rows_in : Journal → Repository → List RowData
rows_in j r = rows_of j (finite.entries (snaps_in r))

-- the earlier first, and of those of one instant the lesser name
abbrev pub moment_cmp : RowData → RowData → Ordering
moment_cmp = then_cmp (on (λ (row : RowData). row.instant) int_cmp) (on (λ (row : RowData). row.id) id_cmp)
