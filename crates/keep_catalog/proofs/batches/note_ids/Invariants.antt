use Rattle.keep_repo.specs.Repository.{Repository}
use Rattle.keep_catalog.specs.Kept.{HaveIds, IsHashedIn, IsStoredIn}
use Rattle.keep_catalog.proofs.batches.note_ids.Given as goal

abbrev pub invariant-loop-place : goal.invariant-loop-place
invariant-loop-place l = record {
  stored : (r : Repository) → IsStoredIn r l.initial.stored → IsStoredIn r l.stored;
  hashed : (r : Repository) → HaveIds r l.places l.ids → IsHashedIn r l.initial.stored → IsHashedIn r l.stored;
}
