use Rattle.std.proofs.Common.{◌≡◌, ◌+◌, ◌*◌, ◌<◌, ◌≤◌, ◌^◌, ◌∷◌, drop, get_or, length, map, ap, subst, sym, ◌∙◌, arith}
use Rattle.keep_names.specs.declared.blob.BlobId.{BlobId}
use Rattle.keep_pack.specs.Pack.{entries_from, listing}
use Rattle.keep_build.specs.Storing.{Text, blob_view, text_bytes}
use Rattle.keep_build.proofs.Building.{all_listed, first_listed, listed_more, short_at}
use Rattle.keep_build.proofs.packs.listed_blobs.Goals as goal

pub blob_length-length-requires : goal.blob_length-length-requires
blob_length-length-requires c =
    let S = λ (b : BlobId × Text). length (text_bytes b.1) < 2 ^ 32 in
    subst S (sym c.loop-blob-item.is) (short_at c.args.blobs.now c.loop-blob.blob-index c.loop-blob-item.result c.loop-blob-test.true c.requires.fits)

pub overflow_add-offset : goal.overflow_add-offset
overflow_add-offset c =
    let kept = c.args.blobs.now in
    let k = c.loop-blob.blob-index in
    let item = c.loop-blob-item.result in
    let count : c.blob_length-length.result ≡ length (text_bytes (get_or kept k item).1) = c.blob_length-length.ensures ∙ ap (λ (b : BlobId × Text). length (text_bytes b.1)) c.loop-blob-item.is in
    let short : length (text_bytes (get_or kept k item).1) < 4294967296 = short_at kept k item c.loop-blob-test.true c.requires.fits in
    let low : c.loop-blob.offset ≤ 4294967296 * k = c.loop-blob.invariant.low in
    let within : k < length kept = c.loop-blob-test.true in
    let most : 37 * length kept < 4294967296 = c.requires.count in
    omega (arith, count, short, low, within, most)

pub loop-blob-preserved : goal.loop-blob-preserved
loop-blob-preserved c =
    let kept = c.args.blobs.now in
    let k = c.loop-blob.blob-index in
    let item = c.loop-blob-item.result in
    let offset = c.loop-blob.offset in
    let count : c.blob_length-length.result ≡ length (text_bytes (get_or kept k item).1) = c.blob_length-length.ensures ∙ ap (λ (b : BlobId × Text). length (text_bytes b.1)) c.loop-blob-item.is in
    let short : length (text_bytes (get_or kept k item).1) < 4294967296 = short_at kept k item c.loop-blob-test.true c.requires.fits in
    let low : c.loop-blob.offset ≤ 4294967296 * k = c.loop-blob.invariant.low in
    record {
      so_far = listed_more _ c.loop-blob.listed.items c.push.new.self.items (record { blob = item.0; offset = offset; length = c.blob_length-length.result })
          (entries_from offset (map listing (map blob_view (drop k kept))))
          (entries_from (offset + c.blob_length-length.result) (map listing (map blob_view (drop (k + 1) kept))))
          c.loop-blob.invariant.so_far
          (first_listed offset kept k item c.loop-blob-test.true c.requires.fits
          ∙ (λ i. record { blob = (ap (λ (b : BlobId × Text). b.0) (sym c.loop-blob-item.is)) i; offset = offset; length = (sym count) i }
          ∷ entries_from (offset + (sym count) i) (map listing (map blob_view (drop (k + 1) kept)))))
          c.in_ok-push.ensures.items;
      low = omega (arith, count, short, low);
    }

pub returns : goal.returns
returns c = sym (all_listed c.args.blobs.now c.loop-blob.offset c.loop-blob.blob-index _ c.loop-blob.listed.items c.loop-blob-test.false c.loop-blob.invariant.so_far)
