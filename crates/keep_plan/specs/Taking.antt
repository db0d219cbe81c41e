-- The snapshots of a repository that a filter takes.
use Rattle.std.specs.Prelude.{List, Option, filter}
use Rattle.std.specs.FinMap as finite
use Rattle.std.specs.List.{filter_map}
use Rattle.std.specs.Result.{result_ok}
use Rattle.keep_names.specs.declared.id.Id.{Id}
use Rattle.keep_repo.specs.Repository.{Repository}
use Rattle.keep_snap.specs.Facts.{FactsData, facts_of}
use Rattle.keep_snap.specs.Snap.{SnapData, snap_view}
use Rattle.keep_snap.specs.declared.snap.Snap.{Snap}
use Rattle.keep_catalog.specs.Files.{snaps_in}
use Rattle.keep_plan.specs.Picks.{picks}
use Rattle.keep_plan.specs.declared.pick.Pick.{Pick}

-- a snapshot with its name, without where it lies in memory
abbrev pub named_view : Id × Snap → Id × SnapData
named_view named = (named.0, snap_view named.1)

-- the facts of the snapshot of this name
abbrev pub named_facts : Id × SnapData → Option FactsData
named_facts named = result_ok (facts_of named.0 named.1)

-- the facts of those of the snapshots that the rule takes
abbrev pub taken_of : Pick → List (Id × SnapData) → List FactsData
taken_of rule snaps = filter (picks rule) (filter_map named_facts snaps)

-- the facts of the repository's snapshots that the rule takes, by name
unfoldable pub taken_in : Pick → Repository → List FactsData
taken_in rule r = taken_of rule (finite.entries (snaps_in r))
