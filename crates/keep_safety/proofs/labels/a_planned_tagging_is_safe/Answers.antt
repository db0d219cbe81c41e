use Rattle.keep_safety.proofs.Renewed.{tagging_safe}
use Rattle.keep_safety.proofs.Texts.{edits_are_texts}
use Rattle.keep_safety.proofs.labels.a_planned_tagging_is_safe.Goals as goal

pub returns : goal.returns
returns c = record {
  safe = tagging_safe (record {
    apart = c.orders_tell_apart.ensures.names;
    settling = c.what_is_stored_can_be_made.ensures;
    sorted = c.sorted_lists_are_well_formed.ensures;
    read = c.snapshots_read_back.ensures.read;
    written = c.snapshots_read_back.ensures.written;
    retagging = c.retagged_snapshots_can_be_written.ensures;
    safe = c.retagging_is_safe.ensures;
  });
  texts = edits_are_texts;
}
