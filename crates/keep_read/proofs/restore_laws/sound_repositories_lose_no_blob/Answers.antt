use Rattle.keep_read.proofs.Losing.{sound_loses_no_blob}
use Rattle.keep_read.proofs.restore_laws.sound_repositories_lose_no_blob.Goals as goal

pub returns : goal.returns
returns c = sound_loses_no_blob c.the_sound_is_broken_by_trees_alone.ensures
