-- The changes of an archive: those of its parts, and the last one.
use Rattle.std.specs.Prelude.{ℕ, Bool, nat_le, List, [], ◌∷◌, ◌++◌, length, ◌&&◌, Option, None, Some, option_map, is_none, Result, Ok, Err, if◌then◌else◌}
use Rattle.std.specs.List.{find}
use Rattle.keep_names.specs.declared.blob.BlobId.{BlobId}
use Rattle.keep_names.specs.declared.file_name.FileName.{FileName}
use Rattle.keep_names.specs.declared.id.Id.{Id}
use Rattle.keep_repo.specs.Repository.{Repository}
use Rattle.keep_change.specs.Change.{no_change}
use Rattle.keep_change.specs.declared.change.Change.{Change}
use Rattle.keep_catalog.specs.Places.{chosen_listing}
use Rattle.keep_plan.specs.Refusal.{unless, unread_first}
use Rattle.keep_plan.specs.declared.plan_error.PlanError.{PlanError}
use Rattle.keep_plan.specs.declared.plan_error.PlanError.TheVariants.{BadPath, Memory, Reach}
use Rattle.keep_plan.specs.declared.stored.Stored.{Stored}
use Rattle.keep_plan.specs.declared.unreached.Unreached.TheVariants.{MissingBlob}
use Rattle.keep_backup.specs.Backup.{FactsData, bad_time, planned, tagged_file}
use Rattle.keep_build.specs.Blobs.{BlobData, id_of, tree_blob}
use Rattle.keep_build.specs.Stored.{stored_of, stored_with}
use Rattle.keep_archive.specs.Archive.{ArchiveData, PlaceData}
use Rattle.keep_archive.specs.Steps.{full_refusal}
use Rattle.keep_archive.specs.declared.not_planned.NotPlanned.{NotPlanned}
use Rattle.keep_archive.specs.declared.not_planned.NotPlanned.TheVariants.{Differs, Unplanned}

-- what is due of an archive, which is none where it is shut
abbrev pub of_open : {X : Type 0} → (ArchiveData → Result X NotPlanned) → Option ArchiveData → Result X NotPlanned
of_open due None = Err (Unplanned Memory)
of_open due (Some a) = due a

-- what is planned, unless one of the files that were built for it is there with other bytes: the first of those is named
abbrev pub unless_differing : {X : Type 0} → Option FileName → Result X PlanError → Result X NotPlanned
unless_differing differing (Err error) = Err (Unplanned error)
unless_differing (Some file) (Ok planned) = Err (Differs file)
unless_differing None (Ok planned) = Ok planned

-- ---- a part

-- what is stored, as a change: it adds packs and their index alone
abbrev pub part_of : Stored → Change
part_of stored = record no_change {
  adds = stored.adds;
  clears = stored.clears;
  present = stored.present;
  unmarked = stored.unmarked;
}

-- whether nothing would be written
abbrev pub is_idle : Stored → Bool
is_idle stored = nat_le (length stored.adds) 0 && nat_le (length stored.clears) 0

-- the part, if something is written
abbrev pub part_if_any : Stored → Option Change
part_if_any stored = if is_idle stored then None else Some (part_of stored)

-- the change that stores what is held, as far as it has no place
abbrev pub part_change : Repository → ArchiveData → Result (Option Change) PlanError
part_change r a = unless (unread_first r) (Ok (part_if_any (stored_of r a.blobs.held)))

-- the first of the packs and the index that are built for a part, which is there with other bytes
abbrev pub part_differing : Repository → ArchiveData → Option FileName
part_differing r a = (stored_of r a.blobs.held).differing

-- the part, unless one of those is
abbrev pub part_due : Repository → ArchiveData → Result (Option Change) NotPlanned
part_due r a = unless_differing (part_differing r a) (part_change r a)

-- ---- the last change

-- a folder below the root is open
abbrev pub unclosed : PlaceData → Option PlanError
unclosed place = if nat_le (length place.around) 0 then None else Some BadPath

-- whether the repository has no place for the blob
abbrev pub has_no_place : Repository → BlobId → Bool
has_no_place r blob = is_none (chosen_listing r blob)

-- the first of the blobs that has none
abbrev pub missing_first : Repository → List BlobId → Option PlanError
missing_first r named = option_map (λ blob. Reach (MissingBlob blob.id)) (find (has_no_place r) named)

-- the blobs that are left to be stored: those that are held, and then the root's tree
abbrev pub last_blobs : ArchiveData → List BlobData
last_blobs a = a.blobs.held ++ tree_blob a.place.nodes ∷ []

-- the id of the root's tree, and what is stored of what is left, resting on what was named, or why nothing is
abbrev pub last_stored : Repository → ArchiveData → Result (Id × Stored) PlanError
last_stored r a =
    unless (unread_first r)
    (unless (full_refusal a.place)
    (unless (missing_first r a.blobs.named)
    (Ok (id_of (tree_blob a.place.nodes), stored_with r a.blobs.named (last_blobs a)))))

-- that, and the snapshot of the root's tree
abbrev pub planned_of : Repository → FactsData → List (List ℕ) → Result (Id × Stored) PlanError
    → Result Change PlanError
planned_of r facts tags (Err refusal) = Err refusal
planned_of r facts tags (Ok made) = planned r made.1 (tagged_file facts tags made.0)

-- the last change: it stores what is left and adds the snapshot
abbrev pub last_change : Repository → FactsData → List (List ℕ) → ArchiveData → Result Change PlanError
last_change r facts tags a =
    unless (unclosed a.place)
    (unless (bad_time facts)
    (planned_of r facts tags (last_stored r a)))

-- the first of the packs and the index that are built for it, which is there with other bytes
abbrev pub last_differing : Repository → ArchiveData → Option FileName
last_differing r a = (stored_with r a.blobs.named (last_blobs a)).differing

-- the last change, unless one of those is
abbrev pub last_due : Repository → FactsData → List (List ℕ) → ArchiveData → Result Change NotPlanned
last_due r facts tags a = unless_differing (last_differing r a) (last_change r facts tags a)
