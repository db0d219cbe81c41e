use Rattle.std.proofs.Common.{◌≡◌, true, not, ap, subst}
use Rattle.keep_jobs.proofs.RunsOut.{good, runs_out}
use Rattle.keep_jobs.specs.Job as job
use Rattle.keep_jobs.specs.Resolving.{filtered}
use Rattle.keep_labels.specs.Edits.{is_bad_edit}
use Rattle.keep_lines.specs.Edits.{edit_data}
use Rattle.keep_jobs.proofs.resolving.change_tags.Goals as goal

pub returns-in_err-edit : goal.returns-in_err-edit
returns-in_err-edit g c =
    let named = rw c.as_str.ensures.value at c.in_ok-filter.ensures.found in
    let task = job.Tag (edit_data c.args.tag.words.items) in
    let takes = subst (λ words. not (is_bad_edit (edit_data words)) ≡ true) c.deref.ensures.value (good (is_bad_edit (edit_data c.deref.result.now)) c.in_err-edit.ensures.bad) in
    runs_out (λ filter. filter.now.rule) _ (job.Filtered c.in_ok-filter.filter.now.rule task) c.from_residual-in_err-edit.result c.from_residual-in_err-edit.ensures.1
    (ap (λ rule. filtered rule task) named) takes
