use Rattle.keep_change.proofs.change_laws.redo_is_exact.Goals as goal
use Rattle.keep_change.proofs.History.{redo_is_exact_lem}

pub returns : goal.returns
returns c = redo_is_exact_lem
