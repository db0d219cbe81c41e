use Rattle.keep_touch.proofs.Members.{one_list}
use Rattle.keep_touch.proofs.taken_laws.one_list_is_taken.Goals as goal

pub returns : goal.returns
returns c = one_list
