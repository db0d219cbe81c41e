use Rattle.std.proofs.Common.{ℕ, List, Bor}
use Rattle.keep_catalog.proofs.HashNotes.{have_ids}
use Rattle.keep_catalog.proofs.batches.hash_batch.Goals as goal

pub returns-clause-hashed : goal.returns-clause-hashed
returns-clause-hashed g c =
    let have = have_ids (λ (piece : Bor (List ℕ)). piece.now) c.args.repo.now c.loop-place.there.items c.loop-place.pieces.items c.in_ok-ids.ids.items
    c.loop-place.invariant.same (rw c.deref.ensures.value at c.in_ok-ids.ensures) in
    c.note_ids.ensures.hashed c.args.repo.now (rw (c.deref-2.ensures.value, c.deref-3.ensures.value) have) c.loop-place.invariant.hashed
