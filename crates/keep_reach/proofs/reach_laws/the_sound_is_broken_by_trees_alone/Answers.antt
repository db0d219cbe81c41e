use Rattle.keep_reach.proofs.Sound.{sound_broken}
use Rattle.keep_reach.proofs.reach_laws.the_sound_is_broken_by_trees_alone.Goals as goal

pub returns : goal.returns
returns c = sound_broken
