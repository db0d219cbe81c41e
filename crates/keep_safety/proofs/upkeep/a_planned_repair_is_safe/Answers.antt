use Rattle.keep_safety.proofs.RepairSafe.{repair_safe}
use Rattle.keep_safety.proofs.upkeep.a_planned_repair_is_safe.Goals as goal

pub returns : goal.returns
returns c = repair_safe (record {
  names = c.orders_tell_apart.ensures.names;
  ids = c.orders_tell_apart.ensures.ids;
  names_order = c.names_are_ordered.ensures.names;
  places = c.what_a_repair_lists.ensures.places;
  fits = c.what_a_repair_lists.ensures.fits;
  written = c.written_indexes_read_back.ensures.written;
  settling = c.what_is_stored_can_be_made.ensures;
  settles = c.each_built_file_is_stored.ensures;
  sorted = c.sorted_lists_are_well_formed.ensures;
  safe = c.reindexing_is_safe.ensures;
})
