use Rattle.keep_sound.proofs.Covering.{covering_is_careful}
use Rattle.keep_sound.proofs.forms.covering_changes_are_careful.Goals as goal

pub returns : goal.returns
returns c = covering_is_careful c.orders_tell_apart.ensures.names
