use Rattle.keep_safety.proofs.Given.{given_so}
use Rattle.keep_safety.proofs.storing_laws.what_is_stored_is_given.Goals as goal

pub returns : goal.returns
returns c = given_so (record {
  digests = c.digests_are_ids.ensures;
  ids = c.orders_tell_apart.ensures.ids;
  names = c.orders_tell_apart.ensures.names;
  blobs = c.orders_tell_apart.ensures.blobs;
  header = c.built_packs_are_honest.ensures.read;
  stands = c.built_packs_are_honest.ensures.stands;
  within = c.headers_are_read.ensures.within;
  index = c.written_indexes_read_back.ensures.written;
  settles = c.each_built_file_is_stored.ensures;
  reused = c.recorded_uses_give_their_blobs.ensures;
  supports = c.built_files_support_their_blobs.ensures;
})
