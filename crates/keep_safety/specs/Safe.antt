-- That the changes of an archive keep every sound repository sound.
use Rattle.std.specs.Prelude.{◌≡◌, ◌||◌, Bool, true, false, ℕ, List, map, All, IsSome, IsUtf8, Ok, Some, String, string_bytes}
use Rattle.std.specs.Global.{Global}
use Rattle.std.specs.List.{list_any}
use Rattle.keep_names.specs.BlobId.{tree_at}
use Rattle.keep_names.specs.declared.blob.BlobId.{BlobId}
use Rattle.keep_names.specs.declared.id.Id.{Id}
use Rattle.keep_repo.specs.Repository.{Repository}
use Rattle.keep_change.specs.declared.change.Change.{Change}
use Rattle.keep_catalog.specs.Orders.{blob_eq}
use Rattle.keep_sound.specs.Careful.{IsSafe}
use Rattle.keep_sound.specs.Met.{IsIn}
use Rattle.keep_sound.specs.Plans.{AreMet, IsClosed, Texts}
use Rattle.keep_backup.specs.Backup.{FactsData, tagged_file}
use Rattle.keep_build.specs.Blobs.{blob_id_of, id_of, is_full, tree_blob}
use Rattle.keep_build.specs.Stored.{built}
use Rattle.keep_safety.specs.Met.{IsMet}
use Rattle.keep_safety.specs.SafeBackup.{AreTexts}
use Rattle.keep_archive.specs.Archive.{ArchiveData, archive_view}
use Rattle.keep_archive.specs.Plans.{last_blobs, last_change, part_change}
use Rattle.keep_archive.specs.declared.archive.Archive.{Archive}

-- ---- a part

-- the change of a part is safe, whatever snapshots are known, if the files that it builds are met
abbrev pub PartIsSafe : Type 0
PartIsSafe =
    (r all : Repository) (known : Id → Bool) (a : ArchiveData) (c : Change) → part_change r a ≡ Ok (Some c)
    → IsMet all r → All (IsIn all) (built r a.blobs.held) → IsSafe all known c

-- ---- the last change

-- the id of the root's tree
abbrev pub root_of : ArchiveData → Id
root_of a = id_of (tree_blob a.place.nodes)

-- whether the blob was named, or is left to be stored
abbrev pub is_given : ArchiveData → BlobId → Bool
is_given a blob = list_any (blob_eq blob) a.blobs.named || list_any (blob_eq blob) (map blob_id_of (last_blobs a))

-- These are the texts of a whole backup: the root's tree is among them, the trees name blobs among them alone, and
-- each was named, or is left to be stored.
pub record AreWhole (a : ArchiveData) (texts : Texts) : Type 0 where
  pub root : IsSome (texts (tree_at (root_of a)))
  pub closed : IsClosed texts
  pub given : (blob : BlobId) → IsSome (texts blob) → is_given a blob ≡ true

-- what the last change builds is met: its files, its snapshot, and the texts of the backup
pub record MeetsLast (all r : Repository) (facts : FactsData) (tags : List (List ℕ)) (a : ArchiveData) (texts : Texts)
    : Type 0 where
  pub built : All (IsIn all) (built r (last_blobs a))
  pub snapshot : IsIn all (tagged_file facts tags (root_of a))
  pub met : AreMet all texts

-- the last change is safe, whatever snapshots are known
abbrev pub LastIsSafe : Type 0
LastIsSafe =
    (r all : Repository) (known : Id → Bool) (facts : FactsData) (tags : List (List ℕ)) (a : ArchiveData)
    (texts : Texts) (c : Change) → last_change r facts tags a ≡ Ok c → AreTexts facts → All IsUtf8 tags
    → list_any is_full a.blobs.held ≡ false → IsMet all r → MeetsLast all r facts tags a texts → AreWhole a texts
    → IsSafe all known c

-- ---- what the types of the code say

-- no blob that an archive holds is too long
abbrev pub ArchivesAreShort : Type 0
ArchivesAreShort =
    (archive : Archive) (a : ArchiveData) → archive_view archive ≡ Some a → list_any is_full a.blobs.held ≡ false

-- tags are texts
abbrev pub TagsAreTexts : Type 0
TagsAreTexts = (tags : List (String Global)) → All IsUtf8 (map string_bytes tags)
