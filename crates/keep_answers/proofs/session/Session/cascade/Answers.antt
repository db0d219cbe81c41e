use Rattle.std.proofs.Common.{Err, ap, ◌∙◌}
use Rattle.std.proofs.lemmas.Result.{err_from_is_err_and}
use Rattle.keep_answers.proofs.AnswerLemmas.{AnswersMeant-puts, AnswersMeant-untold}
use Rattle.keep_answers.proofs.CascadeLemmas.{Cascaded-by}
use Rattle.keep_answers.specs.Meaning.{Cascade}
use Rattle.keep_answers.specs.State.{state_of}
use Rattle.keep_answers.specs.Text.{taken_answer}
use Rattle.keep_answers.proofs.session.Session.cascade.Goals as goal

pub returns-clause-answers : goal.returns-clause-answers
returns-clause-answers g c = λ kit.
    let session = c.args.self.now in
    let book = c.args.book.now in
    let session' = c.take_back-taken.new.self in
    let after = c.take_back-taken.new.book in
    AnswersMeant-puts _ _ (state_of kit session book) (state_of kit session' after) (Cascade c.args.number) _ _ c.write_taken.ensures.puts
    (Cascaded-by kit session session' book after c.args.number c.take_back-taken.result c.take_back-taken.ensures.taken c.take_back-taken.ensures.noted)

pub returns-in_err-require_sure-clause-answers : goal.returns-in_err-require_sure-clause-answers
returns-in_err-require_sure-clause-answers g c = λ kit.
    let session = c.args.self.now in
    let book = c.args.book.now in
    let session' = c.take_back-taken.new.self in
    let after = c.take_back-taken.new.book in
    let taken = c.take_back-taken.result in
    let passed = err_from_is_err_and c.from_residual.result c.from_residual.ensures.1 in
    let untold = c.in_err-require_sure.ensures in
    AnswersMeant-untold _ (state_of kit session book) (state_of kit session' after) (Cascade c.args.number) (taken_answer taken.numbers.items taken.stopped) _
    (passed.1 ∙ ap Err (passed.2 ∙ untold.0)) untold.1
    (Cascaded-by kit session session' book after c.args.number taken c.take_back-taken.ensures.taken c.take_back-taken.ensures.noted)
