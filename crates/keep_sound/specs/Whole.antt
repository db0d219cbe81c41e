-- What it means that no snapshot of a repository misses a blob, whatever the formats of its files are.
use Rattle.std.specs.Prelude.{◌≡◌, ◌⊎◌, Bool, true, ℕ, zero, suc, List, Option, None, Some}
use Rattle.std.specs.FinMap as finite
use Rattle.keep_names.specs.BlobId.{tree_at}
use Rattle.keep_names.specs.FileName.{named}
use Rattle.keep_names.specs.Sha256.{sha256}
use Rattle.keep_names.specs.declared.blob.BlobId.{BlobId}
use Rattle.keep_names.specs.declared.blob.BlobType.TheVariants.{Content, Tree}
use Rattle.keep_names.specs.declared.file_name.Kind.{Kind}
use Rattle.keep_names.specs.declared.file_name.Kind.TheVariants.{Pack, Index, Snapshot}
use Rattle.keep_names.specs.declared.id.Id.{Id}
use Rattle.keep_repo.specs.Repository.{Repository}
use Rattle.keep_catalog.specs.Places.{slice_of}
use Rattle.keep_catalog.specs.declared.spot.Spot.{Spot}
use Rattle.keep_reach.specs.Reach.{HasBlob, most_levels}

-- What the bytes of files say, and nothing where they can't be read: the root tree that a snapshot names; the blobs
-- that a tree names; whether an index lists a blob at a spot; whether the header of the spot's pack has it there.
pub record Says : Type 0 where
  pub root : List ℕ → Option Id
  pub names : List ℕ → List BlobId
  pub lists : List ℕ → BlobId → Spot → Bool
  pub has : List ℕ → BlobId → Spot → Bool

-- the file is there, with these bytes
abbrev pub HasFile : Repository → Kind → Id → List ℕ → Type 0
HasFile r kind id bytes = finite.get r.files (named kind id) ≡ Some bytes

-- The blob is there with this text: an index lists it at a spot, the header of the spot's pack has it there, the pack
-- has no mark, and the text stands there and has the blob's id.
pub record HasText (says : Says) (r : Repository) (blob : BlobId) (text : List ℕ) : Type 0 where
  pub spot : Spot
  pub index : Id
  pub listing : List ℕ
  pub pack : List ℕ
  pub has_index : HasFile r Index index listing
  pub has_pack : HasFile r Pack spot.pack pack
  pub listed : says.lists listing blob spot ≡ true
  pub stored : says.has pack blob spot ≡ true
  pub free : finite.get r.marks spot.pack ≡ None
  pub stands : slice_of spot.offset spot.length pack ≡ Some text
  pub hashed : sha256 text ≡ blob.id.0

-- the tree is there, and its text names the blob
pub record Names (says : Says) (r : Repository) (tree blob : BlobId) : Type 0 where
  pub is_tree : tree.blob_type ≡ Tree
  pub text : List ℕ
  pub there : HasText says r tree text
  pub named : HasBlob (says.names text) blob

-- the second is reached from the first, where trees may stand at this many levels from the first down
abbrev pub Reaches : Says → Repository → ℕ → BlobId → BlobId → Type 0
Reaches says r zero a b = (a.blob_type ≡ Content) × (a ≡ b)
Reaches says r (suc levels) a b = (a ≡ b) ⊎ ((c : BlobId) × Names says r a c × Reaches says r levels c b)

-- each blob that a snapshot reaches is there
abbrev pub IsWhole : Says → Repository → Type 0
IsWhole says r =
    (snapshot root : Id) (bytes : List ℕ) (blob : BlobId)
    → HasFile r Snapshot snapshot bytes → says.root bytes ≡ Some root
    → Reaches says r most_levels (tree_at root) blob → (text : List ℕ) × HasText says r blob text
