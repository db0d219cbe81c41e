use Rattle.keep_sound.proofs.Owing.{sound_by_names}
use Rattle.keep_sound.proofs.careful.soundness_is_by_names.Goals as goal

pub returns : goal.returns
returns c = sound_by_names c.the_chosen_place_is_least.ensures
