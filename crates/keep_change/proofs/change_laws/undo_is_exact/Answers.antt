use Rattle.keep_change.proofs.change_laws.undo_is_exact.Goals as goal
use Rattle.keep_change.proofs.History.{undo_is_exact_lem}

pub returns : goal.returns
returns c = undo_is_exact_lem
