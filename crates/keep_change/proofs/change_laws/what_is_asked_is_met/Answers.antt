use Rattle.keep_change.proofs.Asking.{what_is_asked_is_met_lem}
use Rattle.keep_change.proofs.change_laws.what_is_asked_is_met.Goals as goal

pub returns : goal.returns
returns c = what_is_asked_is_met_lem
