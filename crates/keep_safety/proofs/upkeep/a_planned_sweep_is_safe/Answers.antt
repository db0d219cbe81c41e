use Rattle.keep_safety.proofs.SweepKeeps.{sweep_safe}
use Rattle.keep_safety.proofs.upkeep.a_planned_sweep_is_safe.Goals as goal

pub returns : goal.returns
returns c = sweep_safe (record {
  names = c.orders_tell_apart.ensures.names;
  ids = c.orders_tell_apart.ensures.ids;
  names_order = c.names_are_ordered.ensures.names;
  kinds_order = c.names_are_ordered.ensures.kinds;
  places = c.what_a_sweep_lists.ensures.places;
  left_fits = c.what_is_left_is_listed.ensures.fits;
  joined_fits = c.what_is_joined_is_listed.ensures.fits;
  written = c.written_indexes_read_back.ensures.written;
  read = c.written_indexes_read_back.ensures.read;
  settling = c.what_is_stored_can_be_made.ensures;
  settles = c.each_built_file_is_stored.ensures;
  sorted = c.sorted_lists_are_well_formed.ensures;
  safe = c.reindexing_is_safe.ensures;
})
