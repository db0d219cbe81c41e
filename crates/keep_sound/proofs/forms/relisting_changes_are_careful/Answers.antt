use Rattle.keep_sound.proofs.Covering.{relisting_is_careful}
use Rattle.keep_sound.proofs.forms.relisting_changes_are_careful.Goals as goal

pub returns : goal.returns
returns c = relisting_is_careful c.orders_tell_apart.ensures.names
