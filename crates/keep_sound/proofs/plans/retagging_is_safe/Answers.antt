use Rattle.keep_sound.proofs.Planning as planning
use Rattle.keep_sound.proofs.plans.retagging_is_safe.Goals as goal

pub returns : goal.returns
returns c = planning.retagging_is_safe c.covering_changes_are_careful.ensures c.careful_changes_are_safe.ensures
