use Rattle.std.proofs.Common.{◌≡◌, ℤ, of_z, to_z, w64, sym, ap, ◌∙◌}
use Rattle.std.proofs.lemmas.Int.{to_z-of_z}
use Rattle.std.proofs.lemmas.Result.{err_from_is_err_and}
use Rattle.keep_plan.proofs.Refused.{none_unread, unread_refused}
use Rattle.keep_repo.specs.Repository.{Repository}
use Rattle.keep_upkeep.specs.Sweep.{sweep_change, sweep_of, waited_marks}
use Rattle.keep_upkeep.proofs.SweepPlanned.{sweep_due, sweep_refused}
use Rattle.keep_upkeep.proofs.sweep.plan_sweep.Goals as goal

pub returns-in_err-catalog-clause-change : goal.returns-in_err-catalog-clause-change
returns-in_err-catalog-clause-change c =
    let p = err_from_is_err_and c.from_residual.result c.from_residual.ensures.1 in
    rw (p.1, p.2) (sweep_refused c.args.view.now.repo c.args.now c.args.wait _ (unread_refused c.args.view.now.repo _ c.in_err-catalog.ensures.refused))

pub returns-in_err-change-clause-change : goal.returns-in_err-change-clause-change
returns-in_err-change-clause-change c =
    let p = err_from_is_err_and c.from_residual-in_err-change.result c.from_residual-in_err-change.ensures.1 in
    let r = c.args.view.now.repo in
    let due : sweep_change r c.args.now c.args.wait ≡ sweep_of c.repo.result.now (waited_marks c.repo.result.now (to_z w64 (of_z w64 c.args.now)) c.args.wait) =
    sweep_due r c.args.now c.args.wait (none_unread r c.in_ok-catalog.ensures.all_read)
    ∙ sym (ap (λ (n : ℤ). sweep_of r (waited_marks r n c.args.wait)) (to_z-of_z w64 c.args.now c.ranges.now))
    ∙ ap (λ (s : Repository). sweep_of s (waited_marks s (to_z w64 (of_z w64 c.args.now)) c.args.wait)) (sym c.repo.ensures) in
    rw (p.1, p.2) (λ other. due ∙ c.in_err-change.ensures other)

pub returns-clause-change : goal.returns-clause-change
returns-clause-change c =
    let r = c.args.view.now.repo in
    sweep_due r c.args.now c.args.wait (none_unread r c.in_ok-catalog.ensures.all_read)
    ∙ sym (ap (λ (n : ℤ). sweep_of r (waited_marks r n c.args.wait)) (to_z-of_z w64 c.args.now c.ranges.now))
    ∙ ap (λ (s : Repository). sweep_of s (waited_marks s (to_z w64 (of_z w64 c.args.now)) c.args.wait)) (sym c.repo.ensures)
    ∙ c.in_ok-change.ensures

pub returns-clause-planned : goal.returns-clause-planned
returns-clause-planned c =
    let r = c.args.view.now.repo in
    let can = c.a_planned_sweep_can_be_made.ensures in
    record {
      well_formed = can.well_formed r c.args.now c.args.wait c.in_ok-change.change (returns-clause-change c);
      met = can.met r c.args.now c.args.wait c.in_ok-change.change (returns-clause-change c);
      seen = c.length.ensures;
    }
