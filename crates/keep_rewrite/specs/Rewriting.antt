-- What a rewrite changes.
use Rattle.std.specs.Prelude.{Bool, not, List, [], ◌++◌, filter, map, option_map, Option, Result, Ok, Err, if◌then◌else◌}
use Rattle.std.specs.List.{filter_map, flat_map}
use Rattle.serde_json.specs.Written.{compact_text}
use Rattle.keep_names.specs.FileName.{named}
use Rattle.keep_names.specs.declared.file_name.FileName.{FileName}
use Rattle.keep_names.specs.declared.file_name.Kind.TheVariants.{Snapshot}
use Rattle.keep_names.specs.declared.id.Id.{Id}
use Rattle.keep_repo.specs.Repository.{Repository}
use Rattle.keep_patterns.specs.Matching.{is_nil}
use Rattle.keep_patterns.specs.Parsing.{PatternData}
use Rattle.keep_snap.specs.Facts.{FactsData}
use Rattle.keep_snap.specs.Relabel.{retreed}
use Rattle.keep_snap.specs.Snap.{SnapData}
use Rattle.keep_snap.specs.Written.{snap_data}
use Rattle.keep_change.specs.Change.{no_change}
use Rattle.keep_change.specs.NamedBytes.{NamedBytes, file_of}
use Rattle.keep_change.specs.declared.change.Change.{Change}
use Rattle.keep_catalog.specs.Files.{snap_in}
use Rattle.keep_reach.specs.Reach.{most_levels}
use Rattle.keep_reach.specs.Snapshots.{refusals_of}
use Rattle.keep_plan.specs.FilesThere.{file_there}
use Rattle.keep_plan.specs.Taking.{taken_in}
use Rattle.keep_plan.specs.declared.pick.Pick.{Pick}
use Rattle.keep_plan.specs.Refusal.{unless, unreached_first, unread_first}
use Rattle.keep_plan.specs.Storing.{absent_files, is_any_taken}
use Rattle.keep_plan.specs.declared.plan_error.PlanError.{PlanError}
use Rattle.keep_plan.specs.declared.plan_error.PlanError.TheVariants.{NothingToDo, SnapshotThere}
use Rattle.keep_plan.specs.declared.stored.Stored.{Stored}
use Rattle.keep_build.specs.Blobs.{BlobData}
use Rattle.keep_build.specs.Stored.{store_of}
use Rattle.keep_rewrite.specs.Leaving.{finished, loses, tree_left}

-- ---- the snapshots

-- a snapshot, by its name, and the tree that is left of its root
abbrev pub Retreed : Type 0
Retreed = Id × Id

-- whether something goes from the snapshot
abbrev pub snapshot_loses : Repository → List PatternData → FactsData → Bool
snapshot_loses r patterns s = loses r patterns most_levels [] s.tree

-- the snapshots from which something goes, with the trees that are left
unfoldable pub retreed_of : Repository → List PatternData → List FactsData → List Retreed
retreed_of r patterns all =
    map (λ s. (s.name, tree_left r patterns most_levels [] s.tree)) (filter (snapshot_loses r patterns) all)

-- the trees that are written anew for the snapshots, in the order in which they are finished
unfoldable pub finished_for : Repository → List PatternData → List FactsData → List BlobData
finished_for r patterns all = flat_map (λ s. finished r patterns most_levels [] s.tree) all

-- ---- the files

-- the file of the snapshot of this name with another tree; it is tagged where the old one stays
unfoldable pub retreed_file : Bool → SnapData → Retreed → NamedBytes
retreed_file forget snap new = file_of Snapshot (compact_text (snap_data (retreed snap new.0 new.1 (not forget))))

-- the new file, if the repository has the snapshot
abbrev pub new_file : Repository → Bool → Retreed → Option NamedBytes
new_file r forget new = option_map (λ snap. retreed_file forget snap new) (snap_in r new.0)

abbrev pub new_files : Repository → Bool → List Retreed → List NamedBytes
new_files r forget retreed = filter_map (new_file r forget) retreed

-- the file of the old snapshot, if it is there
abbrev pub old_file : Repository → Retreed → Option NamedBytes
old_file r new = file_there r (named Snapshot new.0)

abbrev pub old_files : Repository → List Retreed → List NamedBytes
old_files r retreed = filter_map (old_file r) retreed

-- the names of the old snapshots
abbrev pub old_names : List Retreed → List FileName
old_names retreed = map (λ new. named Snapshot new.0) retreed

-- ---- the change

-- The new trees are stored, and the new snapshots added. The old snapshots are dropped where they are forgotten,
-- else they have to be present.
abbrev pub change_of : Repository → Bool → Stored → List Retreed → List NamedBytes → Change
change_of r forget stored retreed adds = record no_change {
  adds = stored.adds ++ adds;
  drops = if forget then old_files r retreed else [];
  clears = stored.clears;
  present = if forget then stored.present else stored.present ++ old_names retreed;
  unmarked = stored.unmarked;
}

-- the change that rewrites, unless one of the new snapshots is there already, or two are the same, or there is none
abbrev pub rewriting : Repository → Bool → List Retreed → Stored → Result Change PlanError
rewriting r forget retreed stored =
    if is_any_taken r (new_files r forget retreed) then Err SnapshotThere
    else (if is_nil retreed then Err NothingToDo
    else Ok (change_of r forget stored retreed (absent_files r (new_files r forget retreed))))

-- the change that rewrites, by what is stored, or why nothing is
abbrev pub rewriting_of : Repository → Bool → List Retreed → Result Stored PlanError → Result Change PlanError
rewriting_of r forget retreed (Ok stored) = rewriting r forget retreed stored
rewriting_of r forget retreed (Err why) = Err why

-- the change that takes what the patterns match out of these snapshots, or the first refusal
abbrev pub rewrite_of : Repository → List PatternData → Bool → List FactsData → Result Change PlanError
rewrite_of r patterns forget taken =
    unless (unreached_first (refusals_of r (map (λ s. s.name) taken)))
    (rewriting_of r forget (retreed_of r patterns taken) (store_of r (finished_for r patterns taken)))

-- the change that takes what the patterns match out of the taken snapshots, or the first refusal
unfoldable pub rewrite_change : Repository → Pick → List PatternData → Bool → Result Change PlanError
rewrite_change r rule patterns forget =
    unless (unread_first r) (rewrite_of r patterns forget (taken_in rule r))
