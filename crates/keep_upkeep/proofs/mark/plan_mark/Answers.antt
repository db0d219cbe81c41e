use Rattle.std.proofs.Common.{ℤ, w64, ap, sym, ◌∙◌}
use Rattle.std.proofs.lemmas.Int.{to_z-of_z}
use Rattle.std.proofs.lemmas.Result.{err_from_is_err_and}
use Rattle.keep_upkeep.specs.Mark.{marking_of, unneeded_packs}
use Rattle.keep_upkeep.proofs.MarkAsked.{mark_due, mark_refused}
use Rattle.keep_upkeep.proofs.MarkUsed.{all_rest}
use Rattle.keep_upkeep.proofs.mark.plan_mark.Goals as goal

pub returns-in_err-reached-clause-change : goal.returns-in_err-reached-clause-change
returns-in_err-reached-clause-change c =
    let due = err_from_is_err_and c.from_residual.result c.from_residual.ensures.1 in
    rw (due.1, due.2) (mark_refused c.args.view.now.repo c.args.view.now.known c.args.moment _ c.in_err-reached.ensures.refused)

pub mark_others-requires : goal.mark_others-requires
mark_others-requires c =
    all_rest c.args.view.now.repo c.in_ok-reached.reached c.in_ok-reuses.reuses c.in_ok-reached.ensures.places c.in_ok-reached.ensures.listed c.in_ok-reuses.ensures

pub returns-in_err-change-clause-change : goal.returns-in_err-change-clause-change
returns-in_err-change-clause-change c =
    let due = err_from_is_err_and c.from_residual-in_err-change.result c.from_residual-in_err-change.ensures.1 in
    rw (due.1, due.2) (λ other. mark_due c.args.view.now.repo c.args.view.now.known c.args.moment c.in_ok-reached.ensures.known
    ∙ ap (λ (n : ℤ). marking_of c.args.view.now.repo c.args.view.now.known n (unneeded_packs c.args.view.now.repo)) (sym (to_z-of_z w64 c.args.moment c.ranges.moment))
    ∙ c.in_err-change.ensures other)

pub returns-clause-change : goal.returns-clause-change
returns-clause-change c =
    mark_due c.args.view.now.repo c.args.view.now.known c.args.moment c.in_ok-reached.ensures.known
    ∙ ap (λ (n : ℤ). marking_of c.args.view.now.repo c.args.view.now.known n (unneeded_packs c.args.view.now.repo)) (sym (to_z-of_z w64 c.args.moment c.ranges.moment))
    ∙ c.in_ok-change.ensures

pub returns-clause-planned : goal.returns-clause-planned
returns-clause-planned c =
    let shown = c.args.view.now in
    let can = c.a_planned_mark_can_be_made.ensures in
    record {
      well_formed = can.well_formed shown.repo shown.known c.args.moment c.in_ok-change.change (returns-clause-change c);
      met = can.met shown.repo shown.known c.args.moment c.in_ok-change.change (returns-clause-change c);
      seen = c.length.ensures;
    }
