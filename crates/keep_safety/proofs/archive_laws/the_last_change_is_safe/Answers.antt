use Rattle.keep_safety.proofs.Last.{last_safe}
use Rattle.keep_safety.proofs.archive_laws.the_last_change_is_safe.Goals as goal

pub returns : goal.returns
returns c = last_safe (record {
  digests = c.digests_are_ids.ensures;
  snapshots = c.snapshots_read_back.ensures.written;
  storing = c.what_is_stored_is_given.ensures;
  reused = c.recorded_uses_give_their_blobs.ensures;
  backing_up = c.backing_up_is_safe.ensures;
})
