-- Where a blob stands, by the names of files alone.
use Rattle.std.specs.Prelude.{◌≡◌, true, false}
use Rattle.keep_names.specs.FileName.{named}
use Rattle.keep_names.specs.declared.blob.BlobId.{BlobId}
use Rattle.keep_names.specs.declared.file_name.Kind.{Kind}
use Rattle.keep_names.specs.declared.file_name.Kind.TheVariants.{Pack, Index, Snapshot}
use Rattle.keep_names.specs.declared.id.Id.{Id}
use Rattle.keep_repo.specs.Repository.{Repository, is_filled}
use Rattle.keep_repo.specs.declared.facet.Facet.{Facet}
use Rattle.keep_repo.specs.declared.facet.Facet.TheVariants.{File, Mark}
use Rattle.keep_catalog.specs.Chosen.{IsListed, IsStored}
use Rattle.keep_catalog.specs.Places.{is_honest}
use Rattle.keep_reach.specs.Snapshots.{Owes}
use Rattle.keep_catalog.specs.declared.spot.Spot.{Spot}

-- the facet of the file of this kind and id
abbrev pub file_facet : Kind → Id → Facet
file_facet kind id = File (named kind id)

-- by the bytes of all files the index lists the blob at the spot, the pack's header has it there, and the bytes
-- there have its id
pub record Supports (all : Repository) (blob : BlobId) (spot : Spot) (index : Id) : Type 0 where
  pub listed : IsListed all blob spot index
  pub stored : IsStored all blob spot
  pub honest : is_honest all blob spot ≡ true

-- so it stands in a repository that has both files, and no mark on the pack
pub record Stands (all r : Repository) (blob : BlobId) (spot : Spot) (index : Id) : Type 0 where
  pub supports : Supports all blob spot index
  pub has_pack : is_filled r (file_facet Pack spot.pack) ≡ true
  pub has_index : is_filled r (file_facet Index index) ≡ true
  pub free : is_filled r (Mark spot.pack) ≡ false

abbrev pub HasPlace : Repository → Repository → BlobId → Type 0
HasPlace all r blob = (spot : Spot) × (index : Id) × Stands all r blob spot index

-- each blob that a present snapshot reaches, by the bytes of all files, has such a place
abbrev pub IsSoundIn : Repository → Repository → Type 0
IsSoundIn all r =
    (snapshot : Id) → is_filled r (file_facet Snapshot snapshot) ≡ true
    → (blob : BlobId) → Owes all snapshot blob → HasPlace all r blob
