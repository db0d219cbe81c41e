use Rattle.keep_sound.proofs.Retreed as retreed
use Rattle.keep_sound.proofs.trees.rewriting_is_safe.Goals as goal

pub returns : goal.returns
returns c =
    retreed.rewriting_is_safe c.covering_changes_are_careful.ensures c.careful_changes_are_safe.ensures
