-- What the chosen place of a blob is, by what indexes list, what headers have and what bytes hash to.
use Rattle.std.specs.Prelude.{◌≡◌, ◌≢◌, true, Option, None, Some}
use Rattle.std.specs.declared.cmp.Ordering.TheVariants.{Less}
use Rattle.keep_names.specs.Orders.{id_cmp}
use Rattle.keep_names.specs.declared.blob.BlobId.{BlobId}
use Rattle.keep_names.specs.declared.id.Id.{Id}
use Rattle.keep_repo.specs.Repository.{Repository}
use Rattle.keep_catalog.specs.Orders.{IsLessSpot}
use Rattle.keep_catalog.specs.Places.{at, is_among, is_honest, is_stored, is_unmarked, listed_in}
use Rattle.keep_catalog.specs.declared.spot.Spot.{Spot}

-- this index is there and lists the blob at the spot
abbrev pub IsListed : Repository → BlobId → Spot → Id → Type 0
IsListed r blob spot index = is_among (listed_in r index) (at blob spot) ≡ true

-- the header of the spot's pack has the blob there
abbrev pub IsStored : Repository → BlobId → Spot → Type 0
IsStored r blob spot = is_stored r (at blob spot) ≡ true

-- no index of a lesser name lists it there
abbrev pub IsLeastIndex : Repository → BlobId → Spot → Id → Type 0
IsLeastIndex r blob spot index = (other : Id) → IsListed r blob spot other → id_cmp other index ≢ Less

-- this index lists the blob at the spot, the header of its pack has it there, the bytes there have its id,
-- and the pack has no mark
pub record IsUsablePlace (r : Repository) (blob : BlobId) (spot : Spot) (index : Id) : Type 0 where
  pub listed : IsListed r blob spot index
  pub stored : IsStored r blob spot
  pub honest : is_honest r blob spot ≡ true
  pub unmarked : is_unmarked r spot.pack ≡ true

-- it is such a place, no lesser spot is one by any index, and the index is the least that lists it there
pub record IsLeastPlace (r : Repository) (blob : BlobId) (spot : Spot) (index : Id) : Type 0 where
  pub place : IsUsablePlace r blob spot index
  pub least_spot : (other : Spot) (by : Id) → IsUsablePlace r blob other by → ¬ IsLessSpot other spot
  pub least_index : IsLeastIndex r blob spot index

-- the least of the open places; none just where there is none
abbrev pub IsChosen : Repository → BlobId → Option (Spot × Id) → Type 0
IsChosen r blob None = (spot : Spot) (index : Id) → ¬ IsUsablePlace r blob spot index
IsChosen r blob (Some c) = IsLeastPlace r blob c.0 c.1
