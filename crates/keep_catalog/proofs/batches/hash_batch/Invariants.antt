use Rattle.std.proofs.Common.{◌≡◌, map, Some}
use Rattle.keep_catalog.specs.Kept.{IsHashedIn, IsStoredIn}
use Rattle.keep_catalog.specs.Places.{id_at, id_of}
use Rattle.keep_catalog.proofs.batches.hash_batch.Given as goal

abbrev pub invariant-loop-place : goal.invariant-loop-place
invariant-loop-place g l = record {
  stored : IsStoredIn l.repo l.stored;
  hashed : IsHashedIn l.repo l.stored;
  same : map (id_at l.repo) l.there.items ≡ map (λ piece. Some (id_of piece.now)) l.pieces.items;
}
