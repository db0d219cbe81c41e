use Rattle.keep_reach.proofs.Sound.{unbroken_sound}
use Rattle.keep_reach.proofs.reach_laws.the_unbroken_is_sound.Goals as goal

pub returns : goal.returns
returns c = unbroken_sound
