-- What is planned on what is shown is planned at its length.
use Rattle.std.proofs.Common.{◌≡◌}
use Rattle.std.proofs.lemmas.Result.{IfOk-weaker}
use Rattle.keep_view.specs.Planned.{IsPlannedOn}
use Rattle.keep_operators.proofs.planner.PlannerPlans.plan.Goals as goal

pub returns-clause-seen : goal.returns-clause-seen
returns-clause-seen g c =
    let shown = c.args.view.now in
    IfOk-weaker c.plan.result (IsPlannedOn shown) (λ planned. planned.seen ≡ shown.length) (λ planned on. on.seen) c.plan.ensures.planned
