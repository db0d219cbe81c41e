use Rattle.keep_touch.proofs.Members.{taken_is_least}
use Rattle.keep_touch.proofs.taken_laws.the_taken_set_is_least.Goals as goal

pub returns : goal.returns
returns c = taken_is_least
