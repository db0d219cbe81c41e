use Rattle.keep_sound.proofs.Planning as planning
use Rattle.keep_sound.proofs.plans.marking_is_safe.Goals as goal

pub returns : goal.returns
returns c =
    planning.marking_is_safe c.the_chosen_place_is_least.ensures c.the_unbroken_is_sound.ensures
    c.recorded_uses_give_their_blobs.ensures c.marking_changes_are_careful.ensures c.careful_changes_are_safe.ensures
