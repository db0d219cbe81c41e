-- What a walk over trees remembers of each blob: how many levels of trees it has, and its chosen listing. All
-- but `Walked`, `HasHeight`, `Knows`, `HaveHeights` and `AreChosen` is of the private contracts of the walk alone.
use Rattle.std.specs.Prelude.{◌≡◌, ℕ, zero, suc, ◌⊎◌, true, List, Option, None, Some, is_some}
use Rattle.std.specs.BTreeMap.{BTreeMap, IsOrdered}
use Rattle.std.specs.BTreeMap as tree
use Rattle.keep_names.specs.Orders.{blob_cmp}
use Rattle.keep_names.specs.declared.blob.BlobId.{BlobId}
use Rattle.keep_names.specs.declared.id.Id.{Id}
use Rattle.keep_reach.specs.Reach.{HasBlob, Naming, Names, Reaches, first_of, refusal_at}
use Rattle.keep_reach.specs.declared.reached_blobs.ReachedBlob.{ReachedBlob}
use Rattle.keep_catalog.specs.declared.reach_error.ReachError.{ReachError}
use Rattle.keep_catalog.specs.declared.reach_error.ReachError.TheVariants.{TooDeep}
use Rattle.keep_catalog.specs.declared.spot.Spot.{Spot}

abbrev pub Walked : Type 0
Walked = BTreeMap BlobId ReachedBlob

-- a height that doesn't fit the levels
abbrev pub too_deep : ℕ → ℕ → Option ReachError
too_deep zero levels = None
too_deep (suc height) zero = Some TooDeep
too_deep (suc height) (suc levels) = too_deep height levels

-- at each level the blob is refused just where its height doesn't fit
pub record HasHeight (named : Naming) (blob : BlobId) (height : ℕ) : Type 0 where
  pub exact : (levels : ℕ) → refusal_at named levels blob ≡ too_deep height levels

pub record HaveHeight (named : Naming) (blobs : List BlobId) (height : ℕ) : Type 0 where
  pub exact : (levels : ℕ) → first_of (refusal_at named levels) blobs ≡ too_deep height levels

-- the blob is remembered
pub record Knows (walked : Walked) (blob : BlobId) : Type 0 where
  pub known : is_some (tree.get blob_cmp walked blob) ≡ true

pub record KnowsAll (walked : Walked) (blobs : List BlobId) : Type 0 where
  pub each : (blob : BlobId) → HasBlob blobs blob → Knows walked blob

-- the chosen listing of each blob, if it has one
abbrev pub Choosing : Type 0
Choosing = BlobId → Option (Spot × Id)

-- each remembered blob has this height, and is chosen there
abbrev pub HaveHeights : Naming → Walked → Type 0
HaveHeights named walked =
    (blob : BlobId) (found : ReachedBlob)
    → tree.get blob_cmp walked blob ≡ Some found → HasHeight named blob found.height

abbrev pub AreChosen : Choosing → Walked → Type 0
AreChosen chosen walked =
    (blob : BlobId) (found : ReachedBlob)
    → tree.get blob_cmp walked blob ≡ Some found → chosen blob ≡ Some (found.spot, found.index)

-- what is remembered is right and in order, and what a remembered blob names is remembered
pub record IsWalked (named : Naming) (chosen : Choosing) (walked : Walked) : Type 0 where
  pub heights : HaveHeights named walked
  pub places : AreChosen chosen walked
  pub closed : (a b : BlobId) → Knows walked a → Names named a b → Knows walked b
  pub ordered : IsOrdered blob_cmp walked

-- only what is reached was added
pub record Grew (named : Naming) (levels : ℕ) (top : BlobId) (old new : Walked) : Type 0 where
  pub kept : (b : BlobId) → Knows old b → Knows new b
  pub came : (b : BlobId) → Knows new b → Knows old b ⊎ Reaches named levels top b

-- some of these reaches it
pub record ReachedFrom (named : Naming) (levels : ℕ) (tops : List BlobId) (b : BlobId) : Type 0 where
  pub top : BlobId
  pub among : HasBlob tops top
  pub reached : Reaches named levels top b

pub record GrewAll (named : Naming) (levels : ℕ) (tops : List BlobId) (old new : Walked) : Type 0 where
  pub kept : (b : BlobId) → Knows old b → Knows new b
  pub came : (b : BlobId) → Knows new b → Knows old b ⊎ ReachedFrom named levels tops b
