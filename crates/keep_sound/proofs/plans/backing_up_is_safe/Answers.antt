use Rattle.keep_sound.proofs.BackedUp as backed_up
use Rattle.keep_sound.proofs.plans.backing_up_is_safe.Goals as goal

pub returns : goal.returns
returns c =
    backed_up.backing_up_is_safe c.orders_tell_apart.ensures.names c.the_chosen_place_is_least.ensures
    c.covering_changes_are_careful.ensures c.careful_changes_are_safe.ensures
