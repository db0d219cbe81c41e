use Rattle.std.proofs.Common.{◌≡◌, ◌&&◌, cond, true, map, take}
use Rattle.std.specs.List.{flat_map}
use Rattle.keep_index.specs.Index.{pack_view}
use Rattle.keep_names.specs.declared.blob.BlobId.{BlobId}
use Rattle.keep_catalog.specs.Kept.{lists_at}
use Rattle.keep_catalog.specs.Orders.{same_id}
use Rattle.keep_catalog.specs.Places.{at, is_among, listed_of}
use Rattle.keep_catalog.specs.declared.spot.Listing.{Listing}
use Rattle.keep_catalog.proofs.listed.list.Given as goal

abbrev pub invariant-loop-pack : goal.invariant-loop-pack
invariant-loop-pack l =
    (blob : BlobId) (x : Listing) → lists_at l.listed blob x
    ≡ cond (same_id l.index x.index && is_among (flat_map listed_of (map pack_view (take l.pack-index l.packs))) (at blob x.spot)) true (lists_at l.initial.listed blob x)
