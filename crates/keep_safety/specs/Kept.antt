-- What becomes of each blob that is offered.
use Rattle.std.specs.Prelude.{◌≡◌, ◌⊎◌, Bool, true, List, Some}
use Rattle.std.specs.List.{list_any}
use Rattle.keep_names.specs.declared.blob.BlobId.{BlobId}
use Rattle.keep_names.specs.declared.id.Id.{Id}
use Rattle.keep_repo.specs.Repository.{Repository}
use Rattle.keep_catalog.specs.Orders.{blob_eq}
use Rattle.keep_catalog.specs.Places.{chosen_listing}
use Rattle.keep_catalog.specs.declared.spot.Spot.{Spot}
use Rattle.keep_plan.specs.Storing.{RecordsUse}
use Rattle.keep_build.specs.Blobs.{BlobData, blob_id_of}
use Rattle.keep_build.specs.Stored.{packs_built, stored_of}

-- whether one of the packs that are built of these blobs has one of this name
abbrev pub is_built : Repository → List BlobData → BlobId → Bool
is_built r blobs name = list_any (list_any (λ b. blob_eq name (blob_id_of b))) (packs_built r blobs)

-- a built pack has it, or it has a chosen place, and the use of that is recorded
abbrev pub IsKept : Repository → List BlobData → BlobId → Type 0
IsKept r blobs name =
    (is_built r blobs name ≡ true)
    ⊎ ((place : Spot × Id) × (chosen_listing r name ≡ Some place) × RecordsUse (stored_of r blobs) place)
