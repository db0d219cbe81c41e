use Rattle.keep_safety.proofs.Backed.{backup_safe, backups_are_texts}
use Rattle.keep_safety.proofs.backup.a_planned_backup_is_safe.Goals as goal

pub returns : goal.returns
returns c = record {
  safe = backup_safe (record {
    digests = c.digests_are_ids.ensures;
    blobs = c.orders_tell_apart.ensures.blobs;
    trees = c.trees_read_back.ensures.written;
    snapshots = c.snapshots_read_back.ensures.written;
    storing = c.what_is_stored_is_given.ensures;
    well_formed = c.a_planned_backup_can_be_made.ensures.well_formed;
    backing_up = c.backing_up_is_safe.ensures;
  });
  texts = backups_are_texts;
}
