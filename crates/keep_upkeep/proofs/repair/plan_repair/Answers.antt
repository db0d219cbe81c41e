use Rattle.std.proofs.Common.{ap, sym, ◌∙◌}
use Rattle.keep_upkeep.proofs.RepairPlanned.{repair_made, repair_nothing}
use Rattle.keep_upkeep.specs.Repair.{is_idle, repairing}
use Rattle.keep_upkeep.proofs.repair.plan_repair.Goals as goal

pub returns-then-is_idle-clause-change : goal.returns-then-is_idle-clause-change
returns-then-is_idle-clause-change c other =
    repair_nothing c.args.view.now.repo c.in_ok-change.change (c.in_ok-change.ensures.change ∙ ap repairing c.repo.ensures) (sym c.is_idle.ensures ∙ c.if-is_idle.true)

pub returns-clause-change : goal.returns-clause-change
returns-clause-change c =
    repair_made c.args.view.now.repo c.in_ok-change.change (c.in_ok-change.ensures.change ∙ ap repairing c.repo.ensures) (sym c.is_idle.ensures ∙ c.if-is_idle.false)

pub returns-clause-planned : goal.returns-clause-planned
returns-clause-planned c =
    let can = c.a_planned_repair_can_be_made.ensures in
    record {
      well_formed = can.well_formed c.args.view.now.repo c.in_ok-change.change (returns-clause-change c);
      met = can.met c.args.view.now.repo c.in_ok-change.change (returns-clause-change c);
      seen = c.length.ensures;
    }
