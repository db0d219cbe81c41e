use Rattle.keep_sound.proofs.Planning as planning
use Rattle.keep_sound.proofs.plans.reindexing_is_safe.Goals as goal

pub returns : goal.returns
returns c = planning.reindexing_is_safe c.relisting_changes_are_careful.ensures c.careful_changes_are_safe.ensures
