use Rattle.std.proofs.Common.{Err, ap, subst, ◌∙◌}
use Rattle.std.proofs.lemmas.Result.{err_from_is_err_and}
use Rattle.keep_change.specs.declared.change.Change.{Change}
use Rattle.keep_answers.proofs.AnswerLemmas.{AnswersMeant-none, AnswersMeant-puts, AnswersMeant-untold, Committed-by}
use Rattle.keep_answers.specs.Answer.{Committed}
use Rattle.keep_answers.specs.Meaning.{Add}
use Rattle.keep_answers.specs.State.{state_of}
use Rattle.keep_answers.specs.Text.{commit_text, reply_answer}
use Rattle.keep_answers.proofs.session.Session.add.Goals as goal

pub returns-clause-answers : goal.returns-clause-answers
returns-clause-answers g c = λ kit.
    let made = c.commit_now-outcome in
    let state = state_of kit c.args.self.now c.args.book.now in
    let after = state_of kit made.new.self made.new.book in
    let text = reply_answer (commit_text made.result.1) made.result.0 in
    AnswersMeant-puts _ _ state after (Add c.args.kind c.args.bytes.items) text _ c.write_committed.ensures.puts
    (subst (λ (change : Change). Committed state change text after) c.in_ok-change.ensures
    (Committed-by kit c.args.self.now made.new.self c.args.book.now made.new.book c.in_ok-change.change made.result.1 made.result.0 made.ensures.responds made.ensures.noted made.ensures.sizes))

pub returns-in_err-change-clause-answers : goal.returns-in_err-change-clause-answers
returns-in_err-change-clause-answers g c = λ kit.
    let passed = err_from_is_err_and c.from_residual.result c.from_residual.ensures.1 in
    AnswersMeant-none _ (state_of kit c.args.self.now c.args.book.now) (Add c.args.kind c.args.bytes.items) _ (passed.1 ∙ ap Err passed.2)

pub returns-in_err-require_sure-clause-answers : goal.returns-in_err-require_sure-clause-answers
returns-in_err-require_sure-clause-answers g c = λ kit.
    let made = c.commit_now-outcome in
    let state = state_of kit c.args.self.now c.args.book.now in
    let after = state_of kit made.new.self made.new.book in
    let text = reply_answer (commit_text made.result.1) made.result.0 in
    let passed = err_from_is_err_and c.from_residual-in_err-require_sure.result c.from_residual-in_err-require_sure.ensures.1 in
    let untold = c.in_err-require_sure.ensures in
    AnswersMeant-untold _ state after (Add c.args.kind c.args.bytes.items) text _ (passed.1 ∙ ap Err (passed.2 ∙ untold.0)) untold.1
    (subst (λ (change : Change). Committed state change text after) c.in_ok-change.ensures
    (Committed-by kit c.args.self.now made.new.self c.args.book.now made.new.book c.in_ok-change.change made.result.1 made.result.0 made.ensures.responds made.ensures.noted made.ensures.sizes))
