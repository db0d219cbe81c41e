use Rattle.keep_jobs.specs.Kits.{kit_view}
use Rattle.keep_answers.proofs.session.Session.resolve.Goals as goal

pub returns-in-Question : goal.returns-in-Question
returns-in-Question g c = rw c.in-Question.is (c.resolve_question.ensures (kit_view c.args.kit.now))
