use Rattle.keep_change.proofs.change_laws.taking_back_restores.Goals as goal
use Rattle.keep_change.proofs.History.{taking_back_restores_lem}

pub returns : goal.returns
returns c = taking_back_restores_lem
