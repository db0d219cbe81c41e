use Rattle.std.proofs.Common.{◌<◌, ◌&&◌, cond, true, List, length, map, take, get_or, refl, sym, ap, subst, ◌∙◌}
use Rattle.keep_names.specs.declared.blob.Blob.{Blob}
use Rattle.keep_catalog.specs.Kept.{lists_at}
use Rattle.keep_catalog.specs.Orders.{packed_blob_eq, same_id}
use Rattle.keep_catalog.specs.Places.{at, is_among, packed_of}
use Rattle.keep_catalog.specs.declared.spot.PackedBlob.{PackedBlob}
use Rattle.keep_catalog.proofs.Growing.{map_taken, no_entry}
use Rattle.keep_catalog.proofs.Relisted.{one_place}
use Rattle.keep_catalog.proofs.listed.list_pack.Goals as goal

pub loop-entry-preserved : goal.loop-entry-preserved
loop-entry-preserved c blob l =
    let blobs = c.args.pack.now.blobs.items in
    let pack = c.args.pack.now.id in
    let index = c.args.index in
    let i = c.loop-entry.entry-index in
    let place : PackedBlob = packed_of pack (get_or blobs i no_entry) in
    let before = lists_at c.args.listed.now blob l in
    let now = lists_at c.loop-entry.listed blob l in
    let Below : List Blob → Type 0 = λ xs. i < length xs in
    let lt : i < length blobs = subst Below c.deref-entry-items.ensures.value c.loop-entry-test.true in
    one_place index blob l true before now _ (map (packed_of pack) (take i blobs)) place (c.loop-entry.invariant blob l)
    (c.in_ok-list_place.ensures blob l
    ∙ ap (λ p. cond (same_id index l.index && packed_blob_eq (at blob l.spot) p) true now) (c.of.ensures ∙ ap (λ xs. packed_of pack (get_or xs i no_entry)) c.deref-entry-items.ensures.value))
    ∙ ap (λ places. cond (same_id index l.index && is_among places (at blob l.spot)) true before) (sym (map_taken blobs i (get_or blobs i no_entry) no_entry lt refl (packed_of pack)))
