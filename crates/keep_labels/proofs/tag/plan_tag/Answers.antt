use Rattle.std.proofs.Common.{ap, map, cond, sym, ◌∙◌, Some, None}
use Rattle.std.proofs.lemmas.Result.{err_from_is_err_and}
use Rattle.keep_plan.proofs.Refused.{none_unread, unread_refused}
use Rattle.keep_plan.specs.Taking.{taken_in}
use Rattle.keep_plan.specs.declared.plan_error.PlanError.TheVariants.{BadEdit}
use Rattle.keep_snap.specs.Facts.{facts_view}
use Rattle.keep_labels.specs.Edits.{edit_view}
use Rattle.keep_labels.specs.Tagging.{tag_change}
use Rattle.keep_labels.proofs.Planned.{planned_so}
use Rattle.keep_labels.proofs.Tagged.{tag_answered, tag_bad, tag_refused}
use Rattle.keep_labels.proofs.tag.plan_tag.Goals as goal

pub returns-then-is_bad-clause-change : goal.returns-then-is_bad-clause-change
returns-then-is_bad-clause-change g c other =
    tag_bad c.args.view.now.repo c.args.filter.now.rule (edit_view c.args.edit.now) BadEdit (ap (λ b. cond b (Some BadEdit) None) (sym c.is_bad.ensures ∙ c.if-is_bad.true))

pub returns-in_err-catalog-clause-change : goal.returns-in_err-catalog-clause-change
returns-in_err-catalog-clause-change g c =
    let p = err_from_is_err_and c.from_residual.result c.from_residual.ensures.1 in
    rw (p.1, p.2) (tag_refused c.args.view.now.repo c.args.filter.now.rule (edit_view c.args.edit.now) _
    (ap (λ b. cond b (Some BadEdit) None) (sym c.is_bad.ensures ∙ c.if-is_bad.false)) (unread_refused c.args.view.now.repo _ c.in_err-catalog.ensures.refused))

pub returns-clause-change : goal.returns-clause-change
returns-clause-change g c =
    tag_answered c.args.view.now.repo c.args.filter.now.rule (edit_view c.args.edit.now) _ c.plan_of.result
    (ap (λ b. cond b (Some BadEdit) None) (sym c.is_bad.ensures ∙ c.if-is_bad.false)) (none_unread c.args.view.now.repo c.in_ok-catalog.ensures.all_read)
    (ap (map facts_view) c.deref.ensures.value ∙ c.in_ok-taken.ensures ∙ ap (taken_in c.args.filter.now.rule) c.in_ok-catalog.ensures.catalog) c.plan_of.ensures.change

pub returns-clause-planned : goal.returns-clause-planned
returns-clause-planned g c =
    let r = c.args.view.now.repo in
    let rule = c.args.filter.now.rule in
    let edit = edit_view c.args.edit.now in
    let can = c.a_planned_tagging_can_be_made.ensures in
    planned_so c.args.view.now (tag_change r rule edit) (can.well_formed r rule edit) (can.met r rule edit)
    c.plan_of.result (returns-clause-change g c) c.plan_of.ensures.seen
