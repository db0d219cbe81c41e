use Rattle.keep_plan.proofs.Made.{settled_made}
use Rattle.keep_plan.proofs.plan_laws.what_is_stored_can_be_made.Goals as goal

pub returns : goal.returns
returns c = settled_made
