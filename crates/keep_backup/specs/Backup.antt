-- What a backup changes (restic's design document, "Snapshots").
use Rattle.std.specs.Prelude.{ℕ, List, [], ◌∷◌, ◌++◌, map, Option, None, Some, is_none, Result, Ok, Err, string_bytes, if◌then◌else◌}
use Rattle.serde_json.specs.Data.{no_members}
use Rattle.serde_json.specs.Written.{compact_text}
use Rattle.keep_names.specs.declared.file_name.Kind.TheVariants.{Snapshot}
use Rattle.keep_names.specs.declared.id.Id.{Id}
use Rattle.keep_repo.specs.Repository.{Repository}
use Rattle.keep_change.specs.Change.{no_change}
use Rattle.keep_change.specs.declared.change.Change.{Change}
use Rattle.keep_change.specs.NamedBytes.{NamedBytes, file_of}
use Rattle.keep_snap.specs.Snap.{SnapData}
use Rattle.keep_snap.specs.Time.{time_in}
use Rattle.keep_snap.specs.Written.{snap_data}
use Rattle.keep_plan.specs.Refusal.{unless, unread_first}
use Rattle.keep_plan.specs.Storing.{is_there}
use Rattle.keep_plan.specs.declared.plan_error.PlanError.{PlanError}
use Rattle.keep_plan.specs.declared.plan_error.PlanError.TheVariants.{BadTime, SnapshotThere}
use Rattle.keep_plan.specs.declared.stored.Stored.{Stored}
use Rattle.keep_backup.specs.Folders.{root_folder}
use Rattle.keep_backup.specs.Paths.{FileData, files_in_order}
use Rattle.keep_build.specs.Stored.{stored_of}
use Rattle.keep_build.specs.Blobs.{id_of}
use Rattle.keep_backup.specs.Walk.{blobs_of, walk_refusal, root_tree}
use Rattle.keep_backup.specs.declared.snapshot.BackupFacts.{BackupFacts}

-- ---- the snapshot

-- who backs up what, and when, without where the texts lie in memory
pub record FactsData : Type 0 where
  pub host : List ℕ
  pub user : List ℕ
  pub paths : List (List ℕ)
  pub time : List ℕ

abbrev pub facts_view : BackupFacts → FactsData
facts_view facts = record {
  host = string_bytes facts.host;
  user = string_bytes facts.user;
  paths = map string_bytes facts.paths.items;
  time = string_bytes facts.time;
}

-- what a snapshot says: these facts, tags and the root's tree, and nothing else
abbrev pub tagged_snapshot : FactsData → List (List ℕ) → Id → SnapData
tagged_snapshot facts tags tree = record {
  time = facts.time;
  tree = tree;
  paths = facts.paths;
  hostname = Some facts.host;
  username = Some facts.user;
  tags = tags;
  original = None;
  dir = None;
  others = no_members;
}

-- its file
unfoldable pub tagged_file : FactsData → List (List ℕ) → Id → NamedBytes
tagged_file facts tags tree = file_of Snapshot (compact_text (snap_data (tagged_snapshot facts tags tree)))

-- the snapshot without tags, and its file
abbrev pub snapshot_of : FactsData → Id → SnapData
snapshot_of facts tree = tagged_snapshot facts [] tree

unfoldable pub snapshot_file : FactsData → Id → NamedBytes
snapshot_file facts tree = file_of Snapshot (compact_text (snap_data (snapshot_of facts tree)))

-- ---- the change

-- the id of the root's tree, and what is stored of the blobs of the files, or why nothing is
unfoldable pub stored_files_of : Repository → ℕ → List FileData → Result (Id × Stored) PlanError
stored_files_of r cut files =
    unless (unread_first r)
    (unless (walk_refusal cut files)
    (Ok (id_of (root_tree cut (root_folder files)), stored_of r (blobs_of cut (root_folder files)))))

-- what is stored is added and recorded, and the snapshot is added
abbrev pub change_of : Stored → NamedBytes → Change
change_of stored snapshot = record no_change {
  adds = stored.adds ++ snapshot ∷ [];
  clears = stored.clears;
  present = stored.present;
  unmarked = stored.unmarked;
}

-- the change, unless the repository has the snapshot
abbrev pub planned : Repository → Stored → NamedBytes → Result Change PlanError
planned r stored snapshot =
    if is_there r snapshot.name then Err SnapshotThere else Ok (change_of stored snapshot)

abbrev pub planned_of : Repository → FactsData → Result (Id × Stored) PlanError → Result Change PlanError
planned_of r facts (Err refusal) = Err refusal
planned_of r facts (Ok made) = planned r made.1 (snapshot_file facts made.0)

-- a time that no snapshot can have
abbrev pub bad_time : FactsData → Option PlanError
bad_time facts = if is_none (time_in facts.time) then Some BadTime else None

-- the change that backs up files in the order of their paths, or the first refusal, as why there are no such files
abbrev pub backup_of : Repository → FactsData → ℕ → Result (List FileData) PlanError
    → Result Change PlanError
backup_of r facts cut (Err refusal) = Err refusal
backup_of r facts cut (Ok files) =
    unless (bad_time facts) (planned_of r facts (stored_files_of r cut files))

-- the change that backs up the files that are given by texts and bytes, or the first refusal
unfoldable pub backup_change : Repository → FactsData → ℕ → List (List ℕ × List ℕ)
    → Result Change PlanError
backup_change r facts cut given = backup_of r facts cut (files_in_order given)
