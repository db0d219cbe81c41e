use Rattle.std.proofs.Common.{length}
use Rattle.keep_catalog.specs.Kept.{IsHashedIn, IsStoredIn}
use Rattle.keep_catalog.proofs.batches.hash_places.Given as goal

abbrev pub invariant-loop-rest : goal.invariant-loop-rest
invariant-loop-rest g l = record {
  stored : IsStoredIn l.repo l.stored;
  hashed : IsHashedIn l.repo l.stored;
}

abbrev pub decreases-loop-rest : goal.decreases-loop-rest
decreases-loop-rest g l = length l.rest
