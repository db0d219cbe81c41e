use Rattle.std.proofs.Common.{get_or}
use Rattle.keep_catalog.proofs.Growing.{no_blob}
use Rattle.keep_catalog.proofs.Hashes.{more_seen, more_told}
use Rattle.keep_catalog.proofs.wrong.note_blobs.Goals as goal

pub loop-blob-preserved : goal.loop-blob-preserved
loop-blob-preserved c =
    let blobs = c.args.blobs.now in
    let i = c.loop-blob.blob-index in
    record {
      told = λ q. more_seen c.args.pack blobs i no_blob c.loop-blob-test.true q _ _ (c.loop-blob.invariant.told q) (c.in_ok-note_first.ensures.told q);
      wrong = more_told c.args.pack blobs i no_blob c.loop-blob-test.true c.args.wrong.now.items _ _ _ c.loop-blob.invariant.wrong (c.loop-blob.invariant.told (get_or blobs i no_blob)) c.in_ok-note_first.ensures.wrong;
    }
