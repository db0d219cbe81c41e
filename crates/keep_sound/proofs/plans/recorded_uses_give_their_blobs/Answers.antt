use Rattle.keep_sound.proofs.Giving.{reused_is_given}
use Rattle.keep_sound.proofs.plans.recorded_uses_give_their_blobs.Goals as goal

pub returns : goal.returns
returns c = reused_is_given c.the_chosen_place_is_least.ensures
