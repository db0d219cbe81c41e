use Rattle.std.proofs.Common.{◌≡◌, ◌+◌, ◌-◌, ◌<◌, ◌≤◌, ◌^◌, length, map, take, get_or, ap, subst, sym, ◌∙◌, arith}
use Rattle.keep_names.specs.declared.blob.BlobId.{BlobId}
use Rattle.keep_build.specs.Packs.{bytes_in, full_pack}
use Rattle.keep_build.specs.Storing.{Text, blob_view, text_bytes}
use Rattle.keep_build.proofs.Building.{all_taken, bytes_more, first_full, front_low, short_at}
use Rattle.keep_build.proofs.packs.first_pack.Goals as goal

pub blob_length-requires : goal.blob_length-requires
blob_length-requires c =
    let S = λ (b : BlobId × Text). length (text_bytes b.1) < 2 ^ 32 in
    subst S (sym c.index-blobs-place.is) (short_at c.args.blobs.now c.loop-place.place c.index-blobs-place.result c.loop-place-test.true c.requires.fits)

pub returns-then-size-ge-FULL_PACK-clause-first : goal.returns-then-size-ge-FULL_PACK-clause-first
returns-then-size-ge-FULL_PACK-clause-first c =
    let kept = c.args.blobs.now in
    let k = c.loop-place.place in
    let here = c.index-blobs-place.result in
    let sum : c.loop-place.size ≡ bytes_in (map blob_view (take k kept)) = c.loop-place.invariant.sum in
    let low : c.loop-place.size < full_pack = c.loop-place.invariant.low in
    let more : bytes_in (map blob_view (take (k + 1) kept)) ≡ bytes_in (map blob_view (take k kept)) + length (text_bytes (get_or kept k here).1) = bytes_more kept k here c.loop-place-test.true in
    let count : c.blob_length.result ≡ length (text_bytes (get_or kept k here).1) =
    c.blob_length.ensures ∙ ap (λ (blob : BlobId × Text). length (text_bytes blob.1)) c.index-blobs-place.is in
    let full : 16777216 ≤ c.loop-place.size + c.blob_length.result = c.if-size-ge-FULL_PACK.true in
    first_full kept k c.loop-place-test.true (omega (arith, sum, low)) (omega (arith, sum, more, count, full))

pub returns-clause-first : goal.returns-clause-first
returns-clause-first c =
    let kept = c.args.blobs.now in
    let sum : c.loop-place.size ≡ bytes_in (map blob_view (take c.loop-place.place kept)) = c.loop-place.invariant.sum in
    let low : c.loop-place.size < full_pack = c.loop-place.invariant.low in
    all_taken kept c.requires.some (front_low kept (length kept) c.loop-place.place c.loop-place-test.false (omega (arith, sum, low)))

pub returns-clause-front : goal.returns-clause-front
returns-clause-front c =
    let kept = c.args.blobs.now in
    let sum : c.loop-place.size ≡ bytes_in (map blob_view (take c.loop-place.place kept)) = c.loop-place.invariant.sum in
    let low : c.loop-place.size < full_pack = c.loop-place.invariant.low in
    front_low kept (length kept - 1) c.loop-place.place c.loop-place-test.false (omega (arith, sum, low))
