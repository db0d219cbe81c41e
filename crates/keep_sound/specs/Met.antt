-- All files that are ever met, as one repository without marks.
use Rattle.std.specs.Prelude.{◌≡◌, true, ℕ, List, All, Some}
use Rattle.std.specs.FinMap as finite
use Rattle.keep_names.specs.declared.blob.BlobId.{BlobId}
use Rattle.keep_names.specs.declared.file_name.FileName.{FileName}
use Rattle.keep_names.specs.declared.id.Id.{Id}
use Rattle.keep_repo.specs.Repository.{Repository}
use Rattle.keep_change.specs.NamedBytes.{NamedBytes}
use Rattle.keep_change.specs.declared.change.Change.{Change}
use Rattle.keep_catalog.specs.Places.{bytes_at, is_honest, is_unmarked}
use Rattle.keep_catalog.specs.declared.spot.Spot.{Spot}

-- the file is among them, with these bytes
abbrev pub IsIn : Repository → NamedBytes → Type 0
IsIn all f = finite.get all.files f.name ≡ Some f.bytes

-- each file of the repository is among them, with the same bytes
abbrev pub IsPartOf : Repository → Repository → Type 0
IsPartOf r all =
    (name : FileName) (bytes : List ℕ) → finite.get r.files name ≡ Some bytes → finite.get all.files name ≡ Some bytes

-- each file that the change adds is among them
abbrev pub AddsPart : Repository → Change → Type 0
AddsPart all c = All (IsIn all) c.adds

-- They have no marks, and wherever they have bytes with the id of a blob, these are the same bytes.
pub record HasOneText (all : Repository) : Type 0 where
  pub unmarked : (pack : Id) → is_unmarked all pack ≡ true
  pub one : (blob : BlobId) (s t : Spot) → is_honest all blob s ≡ true → is_honest all blob t ≡ true
      → bytes_at all s ≡ bytes_at all t
