use Rattle.keep_crew.proofs.Planning.{planned_on}
use Rattle.keep_crew.proofs.plans.plan_on.Goals as goal

pub returns-clause-planned : goal.returns-clause-planned
returns-clause-planned g c =
    planned_on (g.P.Plans.wanted c.args.plans.now) c.view.result _ c.view.ensures c.plan-planned.result
    c.plan-planned.ensures.change c.plan-planned.ensures.seen
