use Rattle.std.proofs.Common.{◌≡◌, ◌∙◌, Bool, true, Some, None, Err, ap, if◌then◌else◌, sym}
use Rattle.keep_plan.specs.declared.pick.Pick.{Pick}
use Rattle.keep_plan.specs.declared.pick.Pick.TheVariants.{Any}
use Rattle.keep_plan.specs.Taking.{taken_in}
use Rattle.keep_jobs.specs.Job.{task_change, task_view}
use Rattle.keep_jobs.specs.declared.job.Task.{Task}
use Rattle.keep_labels.specs.Edits.{EditData, edit_view, is_bad_edit}
use Rattle.keep_labels.specs.Tagging.{changed_by, tag_change, tagging_of}
use Rattle.keep_plan.specs.Refusal.{unless, unread_first}
use Rattle.keep_plan.specs.declared.plan_error.PlanError.TheVariants.{BadEdit}
use Rattle.keep_repo.specs.Repository.{Repository}
use Rattle.keep_operators.proofs.each_snapshot.EachSnapshotHoldsFilter.plan.Goals as goal

-- a bad edit is refused before anything else
bad_edit_refused : (r : Repository) (rule : Pick) (edit : EditData) → is_bad_edit edit ≡ true → tag_change r rule edit ≡ Err BadEdit
unfolding tag_change
bad_edit_refused r rule edit bad =
    ap (λ (b : Bool). unless (if b then Some BadEdit else None) (unless (unread_first r) (tagging_of r edit (changed_by edit (taken_in rule r))))) bad

pub returns-then-is_bad-clause-change : goal.returns-then-is_bad-clause-change
returns-then-is_bad-clause-change c other =
    ap (λ (t : Task). task_change c.args.view.now.repo Any (task_view t)) c.in-Tag.is
    ∙ bad_edit_refused c.args.view.now.repo Any (edit_view c.in-Tag.edit) (sym c.is_bad.ensures ∙ c.if-is_bad.true)
