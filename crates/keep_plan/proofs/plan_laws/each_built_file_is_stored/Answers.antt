use Rattle.keep_plan.proofs.Made.{each_settled}
use Rattle.keep_plan.proofs.plan_laws.each_built_file_is_stored.Goals as goal

pub returns : goal.returns
returns c = each_settled
