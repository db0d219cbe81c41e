use Rattle.keep_sound.proofs.Reached.{sound_is_whole}
use Rattle.keep_sound.proofs.whole.sound_repositories_are_whole.Goals as goal

pub returns : goal.returns
returns c = sound_is_whole c.the_chosen_place_is_least.ensures
