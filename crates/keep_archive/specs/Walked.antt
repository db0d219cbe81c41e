-- A folder of files that is given to an archive node by node.
use Rattle.std.specs.Prelude.{◌≡◌, ◌<◌, ◌++◌, ℕ, List, [], None, Ok}
use Rattle.serde_json.specs.Data.{no_members}
use Rattle.keep_repo.specs.Repository.{Repository}
use Rattle.keep_backup.specs.Backup.{FactsData, backup_change}
use Rattle.keep_backup.specs.Folders.{Folder, file_node, folder_node, no_nodes, root_folder}
use Rattle.keep_backup.specs.Paths.{FileData, files_in_order}
use Rattle.keep_backup.specs.Walk.{blobs_below, nodes_of, walk_refusal}
use Rattle.keep_archive.specs.Archive.{ArchiveData, BegunData, BlobsData}
use Rattle.keep_archive.specs.Plans.{last_change}
use Rattle.keep_archive.specs.Steps.{Closes, EndsFile, Opens, Writes, WritesFile}

-- nothing is given yet
abbrev pub nothing : ℕ → ArchiveData
nothing cut = record {
  place = record { around = []; nodes = [] };
  begun = record { cut = cut; content = []; rest = [] };
  blobs = record { named = []; held = [] };
}

-- The nodes of the folder are given in their order: a file is written and ended, and a folder is opened, given and
-- closed. None says anything but its name and what it is.
abbrev pub Gives : Folder → ArchiveData → ArchiveData → Type 0
Gives no_nodes old made = made ≡ old
Gives (file_node name bytes more) old made =
    (read : ArchiveData) × (done : ArchiveData) × WritesFile bytes old read × EndsFile name no_members read done
    × Gives more done made
Gives (folder_node name inner more) old made =
    (entered : ArchiveData) × (full : ArchiveData) × (done : ArchiveData) × Opens name old entered × Gives inner entered full
    × Closes no_members full done × Gives more done made

-- then the archive has the folder's nodes, and holds its blobs in the order of a walk
abbrev pub GivenFolderIsHeld : Type 0
GivenFolderIsHeld =
    (cut : ℕ) (folder : Folder) (made : ArchiveData) → 0 < cut → Gives folder (nothing cut) made
    → made ≡ record {
      place = record { around = []; nodes = nodes_of cut folder };
      begun = record { cut = cut; content = []; rest = [] };
      blobs = record { named = []; held = blobs_below cut folder };
    }

-- and plans what is planned of the files at once
abbrev pub ArchivesPlanBackups : Type 0
ArchivesPlanBackups =
    (r : Repository) (facts : FactsData) (cut : ℕ) (given : List (List ℕ × List ℕ)) (files : List FileData)
    (made : ArchiveData) → 0 < cut → files_in_order given ≡ Ok files → walk_refusal cut files ≡ None
    → Gives (root_folder files) (nothing cut) made
    → last_change r facts [] made ≡ backup_change r facts cut given

-- to write bytes in turn is to write them at once
abbrev pub WritesAreOne : Type 0
WritesAreOne =
    (xs ys : List ℕ) (old between made : BegunData) (blobs more most : BlobsData)
    → Writes xs old between blobs more → Writes ys between made more most → Writes (xs ++ ys) old made blobs most
