-- Where the blobs that a walk over a tree needs were found, and the trees that it need not walk again.
use Rattle.std.specs.Prelude.{◌≡◌, ℕ, true, List, [], Option}
use Rattle.std.specs.BTreeMap as tree
use Rattle.std.specs.BTreeSet.{BTreeSet, contains}
use Rattle.std.specs.Option.{option_map}
use Rattle.keep_names.specs.Orders.{blob_cmp, id_cmp}
use Rattle.keep_names.specs.declared.blob.BlobId.{BlobId}
use Rattle.keep_names.specs.declared.id.Id.{Id}
use Rattle.keep_repo.specs.Repository.{Repository}
use Rattle.keep_catalog.specs.Naming.{named_by}
use Rattle.keep_catalog.specs.Places.{chosen_listing}
use Rattle.keep_reach.specs.Reach.{HasBlob, Reaches}
use Rattle.keep_reach.specs.Walk.{Walked}
use Rattle.keep_catalog.specs.declared.spot.Spot.{Spot}
use Rattle.keep_read.specs.Contents.{contents_at}

-- the spot at which the blob was found
abbrev pub spot_in : Walked → BlobId → Option Spot
spot_in reached blob = option_map (λ found. found.spot) (tree.get blob_cmp reached blob)

-- the blob was found at its chosen place
pub record IsPlaced (r : Repository) (reached : Walked) (blob : BlobId) : Type 0 where
  pub spot : spot_in reached blob ≡ option_map (λ e. e.0) (chosen_listing r blob)

-- and each of these
pub record ArePlaced (r : Repository) (reached : Walked) (blobs : List BlobId) : Type 0 where
  pub each : (blob : BlobId) → HasBlob blobs blob → IsPlaced r reached blob

-- and all that is reached from this one, where trees may stand at so many levels
pub record IsFound (r : Repository) (reached : Walked) (levels : ℕ) (top : BlobId) : Type 0 where
  pub placed : (blob : BlobId) → Reaches (named_by r) levels top blob → IsPlaced r reached blob

-- and from each of these
pub record AreFound (r : Repository) (reached : Walked) (levels : ℕ) (tops : List BlobId) : Type 0 where
  pub each : (top : BlobId) → HasBlob tops top → IsFound r reached levels top

-- nothing stands below these trees, at however many levels
pub record AreBare (r : Repository) (trees : BTreeSet Id) : Type 0 where
  pub empty : (tree : Id) (levels : ℕ) → contains id_cmp trees tree ≡ true → contents_at r levels tree ≡ []
