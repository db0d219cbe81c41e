use Rattle.keep_plan.proofs.Recorded.{use_recorded}
use Rattle.keep_plan.proofs.plan_laws.each_use_is_recorded.Goals as goal

pub returns : goal.returns
returns c = use_recorded
