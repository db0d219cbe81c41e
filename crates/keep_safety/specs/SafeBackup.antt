-- What a change gives that stores blobs, and that the change of a backup keeps every sound repository sound.
use Rattle.std.specs.Prelude.{◌≡◌, Bool, true, false, ℕ, List, map, All, IsUtf8, Ok, String}
use Rattle.std.specs.Global.{Global, Vec}
use Rattle.std.specs.List.{find, list_any}
use Rattle.std.specs.Option.{option_map}
use Rattle.keep_names.specs.declared.blob.BlobId.{BlobId}
use Rattle.keep_names.specs.declared.file_name.FileName.{FileName}
use Rattle.keep_names.specs.declared.id.Id.{Id}
use Rattle.keep_repo.specs.Repository.{Repository}
use Rattle.keep_change.specs.Filling.{has_name, has_pack}
use Rattle.keep_change.specs.Lists.{file_names, marked_packs}
use Rattle.keep_change.specs.declared.change.Change.{Change}
use Rattle.keep_catalog.specs.Orders.{blob_eq}
use Rattle.keep_plan.specs.declared.stored.Stored.{Stored}
use Rattle.keep_sound.specs.Careful.{GivesPlace, IsSafe}
use Rattle.keep_sound.specs.Met.{IsIn, IsPartOf}
use Rattle.keep_sound.specs.Plans.{AreMet, Texts}
use Rattle.keep_backup.specs.Backup.{FactsData, backup_change, facts_view, snapshot_file}
use Rattle.keep_build.specs.Blobs.{BlobData, blob_id_of, id_of, is_full}
use Rattle.keep_backup.specs.Files.{given_view}
use Rattle.keep_backup.specs.Folders.{root_folder}
use Rattle.keep_backup.specs.Paths.{FileData, files_in_order}
use Rattle.keep_build.specs.Stored.{built, stored_of}
use Rattle.keep_backup.specs.Walk.{blobs_of, root_tree}
use Rattle.keep_backup.specs.declared.snapshot.BackupFacts.{BackupFacts}
use Rattle.keep_safety.specs.Met.{IsMet}

-- ---- storing

-- the change takes over what is stored: each of its lists has at least as much
pub record Takes (c : Change) (stored : Stored) : Type 0 where
  pub adds : (name : FileName) → has_name (file_names stored.adds) name ≡ true
      → has_name (file_names c.adds) name ≡ true
  pub present : (name : FileName) → has_name stored.present name ≡ true → has_name c.present name ≡ true
  pub clears : (pack : Id) → has_pack (marked_packs stored.clears) pack ≡ true
      → has_pack (marked_packs c.clears) pack ≡ true
  pub unmarked : (pack : Id) → has_pack stored.unmarked pack ≡ true → has_pack c.unmarked pack ≡ true

-- each blob that is stored is given, where all built files are met
abbrev pub StoringGives : Type 0
StoringGives =
    (r all : Repository) (blobs : List BlobData) (c : Change) → IsPartOf r all
    → list_any is_full blobs ≡ false → All (IsIn all) (built r blobs) → Takes c (stored_of r blobs)
    → (name : BlobId) → list_any (blob_eq name) (map blob_id_of blobs) ≡ true → GivesPlace all c name

-- ---- backing up

-- the bytes of each of the blobs, by its name
abbrev pub texts_of : List BlobData → Texts
texts_of blobs name = option_map (λ (b : BlobData). b.1) (find (λ b. blob_eq name (blob_id_of b)) blobs)

-- who backs up what, and when, is said in texts
pub record AreTexts (facts : FactsData) : Type 0 where
  pub host : IsUtf8 facts.host
  pub user : IsUtf8 facts.user
  pub paths : All IsUtf8 facts.paths
  pub time : IsUtf8 facts.time

-- the path of each file that is given is a text
abbrev pub HaveTextPaths : List (List ℕ × List ℕ) → Type 0
HaveTextPaths given = All (λ file. IsUtf8 file.0) given

-- What a backup builds is met: its files, also those that the repository has already, its snapshot, and the blobs
-- of its walk.
pub record MeetsBackup (all r : Repository) (facts : FactsData) (cut : ℕ) (files : List FileData) : Type 0 where
  pub built : All (IsIn all) (built r (blobs_of cut (root_folder files)))
  pub snapshot : IsIn all (snapshot_file facts (id_of (root_tree cut (root_folder files))))
  pub texts : AreMet all (texts_of (blobs_of cut (root_folder files)))

-- the change of a backup is safe, whatever snapshots are known
abbrev pub BackupIsSafe : Type 0
BackupIsSafe =
    (r all : Repository) (known : Id → Bool) (facts : FactsData) (cut : ℕ) (given : List (List ℕ × List ℕ))
    (files : List FileData) (c : Change)
    → files_in_order given ≡ Ok files → backup_change r facts cut given ≡ Ok c
    → AreTexts facts → HaveTextPaths given
    → IsMet all r → MeetsBackup all r facts cut files → IsSafe all known c

-- what a backup is asked for is said in texts
abbrev pub BackupsAreTexts : Type 0
BackupsAreTexts =
    (facts : BackupFacts) (given : List (String Global × Vec ℕ))
    → AreTexts (facts_view facts) × HaveTextPaths (map given_view given)
