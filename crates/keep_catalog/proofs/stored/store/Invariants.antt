use Rattle.std.proofs.Common.{◌≡◌, cond, None, Some, map, take}
use Rattle.std.specs.BTreeMap as tree
use Rattle.keep_catalog.specs.Orders.{packed_blob_cmp}
use Rattle.keep_catalog.specs.Places.{is_among, packed_of}
use Rattle.keep_catalog.specs.declared.spot.PackedBlob.{PackedBlob}
use Rattle.keep_catalog.proofs.stored.store.Given as goal

abbrev pub invariant-loop-entry : goal.invariant-loop-entry
invariant-loop-entry l =
    (p : PackedBlob) → tree.get packed_blob_cmp l.stored p
    ≡ cond (is_among (map (packed_of l.pack) (take l.entry-index l.entries)) p) (Some None) (tree.get packed_blob_cmp l.initial.stored p)
