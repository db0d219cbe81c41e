-- The orders of spots, places and listings.
use Rattle.std.specs.Prelude.{◌≡◌, ◌<◌, ◌⊎◌, Bool}
use Rattle.std.specs.Ordering.{eq_by_cmp}
use Rattle.std.specs.declared.cmp.Ordering.{Ordering}
use Rattle.std.specs.declared.cmp.Ordering.TheVariants.{Less}
use Rattle.keep_names.specs.Orders.{blob_cmp, id_cmp, name_cmp}
use Rattle.keep_names.specs.declared.blob.BlobId.{BlobId}
use Rattle.keep_names.specs.declared.file_name.FileName.{FileName}
use Rattle.keep_names.specs.declared.id.Id.{Id}
use Rattle.keep_names.specs.contracts.file_name.FileNamePartialEq.TheImpl as the_name_eq
use Rattle.keep_names.specs.contracts.id.IdPartialEq.TheImpl as the_id_eq
use Rattle.keep_catalog.specs.declared.spot.PackedBlob.{PackedBlob}
use Rattle.keep_catalog.specs.declared.spot.Spot.{Spot}
use Rattle.keep_catalog.specs.declared.spot.Listing.{Listing}
use Rattle.keep_catalog.specs.contracts.spot.ListingOrd.TheImpl as the_listing_order
use Rattle.keep_catalog.specs.contracts.spot.PackedBlobOrd.TheImpl as the_packed_blob_order
use Rattle.keep_catalog.specs.contracts.spot.SpotOrd.TheImpl as the_spot_order

-- by pack, offset and length
abbrev pub spot_cmp : Spot → Spot → Ordering
spot_cmp = (the_spot_order.ghosts).cmp

-- of two spots the one is less that has the lesser pack; of one pack the one with the lesser offset; and of
-- one offset the one with the lesser length
abbrev pub IsLessSpot : Spot → Spot → Type 0
IsLessSpot a b =
    (id_cmp a.pack b.pack ≡ Less)
    ⊎ (((a.pack ≡ b.pack) × (a.offset < b.offset))
    ⊎ ((a.pack ≡ b.pack) × (a.offset ≡ b.offset) × (a.length < b.length)))

-- by blob, and then by spot
abbrev pub packed_blob_cmp : PackedBlob → PackedBlob → Ordering
packed_blob_cmp = (the_packed_blob_order.ghosts).cmp

-- by spot, and then by index
abbrev pub listing_cmp : Listing → Listing → Ordering
listing_cmp = (the_listing_order.ghosts).cmp

-- whether the two are one
abbrev pub id_eq : Id → Id → Bool
id_eq = (the_id_eq.ghosts).eq

abbrev pub same_id : Id → Id → Bool
same_id = eq_by_cmp id_cmp

abbrev pub blob_eq : BlobId → BlobId → Bool
blob_eq = eq_by_cmp blob_cmp

abbrev pub spot_eq : Spot → Spot → Bool
spot_eq = eq_by_cmp spot_cmp

abbrev pub packed_blob_eq : PackedBlob → PackedBlob → Bool
packed_blob_eq = eq_by_cmp packed_blob_cmp

abbrev pub listing_eq : Listing → Listing → Bool
listing_eq = eq_by_cmp listing_cmp

abbrev pub name_eq : FileName → FileName → Bool
name_eq = eq_by_cmp name_cmp

-- whether the two names are one, by `==`
abbrev pub same_name : FileName → FileName → Bool
same_name = (the_name_eq.ghosts).eq
