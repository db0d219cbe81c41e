use Rattle.std.proofs.Common.{Err, ap, ◌∙◌}
use Rattle.std.proofs.lemmas.Result.{err_from_is_err_and}
use Rattle.keep_jobs.specs.Job.{job_view}
use Rattle.keep_jobs.specs.Kits.{filters_of, kit_view}
use Rattle.keep_answers.proofs.AnswerLemmas.{AnswersDue-meant, AnswersMeant-puts, AnswersMeant-untold, Job-answered}
use Rattle.keep_answers.proofs.MeaningLemmas.{Job-due}
use Rattle.keep_answers.specs.Meaning.{Job, job_meant}
use Rattle.keep_answers.specs.State.{state_of}
use Rattle.keep_answers.specs.Text.{outcome_answer}
use Rattle.keep_answers.proofs.session.Session.do_job.Goals as goal

pub returns-in_ok-require_sure-in-Ok-clause-answers : goal.returns-in_ok-require_sure-in-Ok-clause-answers
returns-in_ok-require_sure-in-Ok-clause-answers g c =
    let made = c.perform-outcome in
    let kit = kit_view c.args.kit.now in
    let asked = job_view (λ filter. filter.now.rule) c.in-Ok.job in
    let state = state_of kit c.args.self.now c.args.book.now in
    let after = state_of kit made.new.self made.new.book in
    AnswersDue-meant _ _ state after (job_meant (filters_of c.args.kit.now) c.args.line) (Job asked) _ (Job-due (filters_of c.args.kit.now) c.args.line asked c.in-Ok.ensures)
    (AnswersMeant-puts _ _ state after (Job asked) (outcome_answer made.result) _ c.write_outcome.ensures.puts
    (Job-answered kit c.args.self.now made.new.self c.args.book.now made.new.book asked made.result
    made.ensures.made made.ensures.refused made.ensures.bad_edit made.ensures.same))

pub returns-in_err-require_sure-in-Ok-clause-answers : goal.returns-in_err-require_sure-in-Ok-clause-answers
returns-in_err-require_sure-in-Ok-clause-answers g c =
    let made = c.perform-outcome in
    let kit = kit_view c.args.kit.now in
    let asked = job_view (λ filter. filter.now.rule) c.in-Ok.job in
    let state = state_of kit c.args.self.now c.args.book.now in
    let after = state_of kit made.new.self made.new.book in
    let passed = err_from_is_err_and c.from_residual.result c.from_residual.ensures.1 in
    let untold = c.in_err-require_sure-in-Ok.ensures in
    AnswersDue-meant _ _ state after (job_meant (filters_of c.args.kit.now) c.args.line) (Job asked) _ (Job-due (filters_of c.args.kit.now) c.args.line asked c.in-Ok.ensures)
    (AnswersMeant-untold _ state after (Job asked) (outcome_answer made.result) _ (passed.1 ∙ ap Err (passed.2 ∙ untold.0)) untold.1
    (Job-answered kit c.args.self.now made.new.self c.args.book.now made.new.book asked made.result
    made.ensures.made made.ensures.refused made.ensures.bad_edit made.ensures.same))
