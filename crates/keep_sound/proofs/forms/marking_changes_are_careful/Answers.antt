use Rattle.keep_sound.proofs.Covering.{marking_is_careful}
use Rattle.keep_sound.proofs.forms.marking_changes_are_careful.Goals as goal

pub returns : goal.returns
returns c = marking_is_careful
