use Rattle.keep_touch.proofs.Undoing.{kept-undone}
use Rattle.keep_touch.proofs.taken_laws.undos_leave_the_others.Goals as goal

pub returns : goal.returns
returns c = kept-undone
