use Rattle.std.proofs.Common.{◌≡◌, ◌&&◌, cond, false, take}
use Rattle.keep_names.specs.declared.blob.BlobId.{BlobId}
use Rattle.keep_catalog.specs.Kept.{lists_at}
use Rattle.keep_catalog.specs.Orders.{same_id}
use Rattle.keep_catalog.specs.Places.{at, is_among, listed_of}
use Rattle.keep_catalog.specs.declared.spot.Listing.{Listing}
use Rattle.keep_catalog.proofs.listed.unlist_pack.Given as goal

abbrev pub invariant-loop-entry : goal.invariant-loop-entry
invariant-loop-entry l =
    (blob : BlobId) (x : Listing) → lists_at l.listed blob x
    ≡ cond (same_id l.index x.index && is_among (listed_of (record { id = l.pack.id; blobs = take l.entry-index l.pack.blobs.items })) (at blob x.spot)) false (lists_at l.initial.listed blob x)
