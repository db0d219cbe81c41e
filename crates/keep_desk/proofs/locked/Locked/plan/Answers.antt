use Rattle.std.proofs.Common.{◌∙◌, ap, sym}
use Rattle.keep_pages.specs.Histories.{shown_at}
use Rattle.keep_crew.proofs.Planning.{planned_on}
use Rattle.keep_desk.proofs.locked.Locked.plan.Goals as goal

pub returns-clause-planned : goal.returns-clause-planned
returns-clause-planned g c =
    planned_on (g.P.Plans.wanted c.args.plans.now) c.view.result _
    (c.view.ensures ∙ ap (shown_at g.B.Naming.opening) (c.in_default.ensures.published ∙ sym c.in_default.ensures.seen)) c.plan.result
    c.plan.ensures.change c.plan.ensures.seen
