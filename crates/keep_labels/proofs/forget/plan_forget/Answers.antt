use Rattle.std.proofs.Common.{◌∙◌, ap, map, subst, sym}
use Rattle.std.proofs.lemmas.Result.{err_from_is_err_and}
use Rattle.keep_snap.specs.Facts.{facts_view}
use Rattle.keep_labels.specs.Forgetting.{forget_change}
use Rattle.keep_labels.specs.Keeping.{EachOnce, policy_view}
use Rattle.keep_labels.proofs.Forgotten.{forget_answered, forget_refused}
use Rattle.keep_labels.proofs.Once.{once_in_order}
use Rattle.keep_labels.proofs.Planned.{planned_so}
use Rattle.keep_labels.proofs.Taken.{taken_rise}
use Rattle.keep_labels.proofs.forget.plan_forget.Goals as goal

pub returns-in_err-taken-clause-change : goal.returns-in_err-taken-clause-change
returns-in_err-taken-clause-change g c =
    let p = err_from_is_err_and c.from_residual.result c.from_residual.ensures.1 in
    rw (p.1, p.2) (forget_refused c.args.view.now.repo c.args.filter.now.rule (policy_view c.args.policy.now) _ c.in_err-taken.ensures.refused)

pub plan_of-requires : goal.plan_of-requires
plan_of-requires g c =
    subst EachOnce (sym c.in_ok-taken.ensures.taken ∙ ap (map facts_view) (sym c.deref.ensures.value))
    (once_in_order _ (taken_rise c.args.filter.now.rule c.args.view.now.repo))

pub returns-clause-change : goal.returns-clause-change
returns-clause-change g c =
    forget_answered c.args.view.now.repo c.args.filter.now.rule (policy_view c.args.policy.now) _ c.plan_of.result c.in_ok-taken.ensures.all_read
    (ap (map facts_view) c.deref.ensures.value ∙ c.in_ok-taken.ensures.taken) c.plan_of.ensures.change

pub returns-clause-planned : goal.returns-clause-planned
returns-clause-planned g c =
    let r = c.args.view.now.repo in
    let rule = c.args.filter.now.rule in
    let policy = policy_view c.args.policy.now in
    let can = c.a_planned_forget_can_be_made.ensures in
    planned_so c.args.view.now (forget_change r rule policy) (can.well_formed r rule policy) (can.met r rule policy)
    c.plan_of.result (returns-clause-change g c) c.plan_of.ensures.seen
