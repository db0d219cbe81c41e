use Rattle.std.proofs.Common.{◌≡◌, Err, ap, refl, subst}
use Rattle.std.proofs.lemmas.Result.{err_from_is_err_and}
use Rattle.keep_jobs.specs.Kits.{kit_view}
use Rattle.keep_answers.proofs.AnswerLemmas.{AnswersLine-command, AnswersLine-unread}
use Rattle.keep_answers.specs.Answering.{AnswersDue}
use Rattle.keep_answers.specs.Known.{Writes}
use Rattle.keep_answers.specs.Meaning.{meant_by}
use Rattle.keep_answers.specs.State.{State, state_of}
use Rattle.keep_answers.proofs.session.Session.answer_line.Goals as goal

pub returns-in-Some-clause-answers : goal.returns-in-Some-clause-answers
returns-in-Some-clause-answers g c =
    let kit = kit_view c.args.kit.now in
    let state = state_of kit c.args.self.now c.args.book.now in
    let hashed = state_of kit c.args.self.now c.hash_first.new.book in
    let after = state_of (kit_view c.answer.new.kit) c.answer.new.self c.answer.new.book in
    let same : hashed ≡ state = rw (c.hash_first.ensures.ledger, c.hash_first.ensures.hooks) (refl {a = state}) in
    let answers =
    subst (λ (s : State). Writes (g.W.Write.contents c.args.writer.now) (g.W.Write.contents c.answer.new.writer) (λ text. AnswersDue s (meant_by s c.in-Some.command) text c.answer.result after))
    same c.answer.ensures.answers in
    AnswersLine-command _ _ _ _ c.args.line.now c.in-Some.command _ (c.requires.line, c.in_ok-command.ensures.text) (rw c.in-Some.is at c.in_ok-command.ensures.value) answers

pub returns-in_err-command-clause-answers : goal.returns-in_err-command-clause-answers
returns-in_err-command-clause-answers g c =
    let passed = err_from_is_err_and c.from_residual.result c.from_residual.ensures.1 in
    AnswersLine-unread _ _ c.args.line.now c.in_err-command.field-0.0 passed.0 _ passed.2 (λ why e. c.in_err-command.ensures.bad why (ap Err e)) passed.1
