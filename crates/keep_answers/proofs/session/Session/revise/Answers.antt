use Rattle.std.proofs.Common.{Err, ap, subst, ◌∙◌}
use Rattle.std.proofs.lemmas.Result.{err_from_is_err_and}
use Rattle.keep_book.specs.Armed.{Responds}
use Rattle.keep_lines.specs.Revision.{request_of}
use Rattle.keep_replies.specs.Reply.{told_text}
use Rattle.keep_answers.proofs.AnswerLemmas.{AnswersMeant-puts, AnswersMeant-untold, Asked-by}
use Rattle.keep_answers.specs.Meaning.{Revise}
use Rattle.keep_answers.specs.State.{state_of}
use Rattle.keep_answers.specs.Text.{reply_answer}
use Rattle.keep_answers.proofs.session.Session.revise.Goals as goal

pub returns-clause-answers : goal.returns-clause-answers
returns-clause-answers g c = λ kit.
    let session = c.args.self.now in
    let book = c.args.book.now in
    let session' = c.ask-reply.new.self in
    let after = c.ask-reply.new.book in
    let responds = subst (λ request. Responds book request c.ask-reply.result after) c.request.ensures c.ask-reply.ensures.responds in
    AnswersMeant-puts _ _ (state_of kit session book) (state_of kit session' after) (Revise c.args.revision) _ _ c.write_reply.ensures.puts
    (Asked-by kit session session' book after (request_of c.args.revision) told_text c.ask-reply.result responds c.ask-reply.ensures.noted)

pub returns-in_err-require_sure-clause-answers : goal.returns-in_err-require_sure-clause-answers
returns-in_err-require_sure-clause-answers g c = λ kit.
    let session = c.args.self.now in
    let book = c.args.book.now in
    let session' = c.ask-reply.new.self in
    let after = c.ask-reply.new.book in
    let responds = subst (λ request. Responds book request c.ask-reply.result after) c.request.ensures c.ask-reply.ensures.responds in
    let passed = err_from_is_err_and c.from_residual.result c.from_residual.ensures.1 in
    let untold = c.in_err-require_sure.ensures in
    AnswersMeant-untold _ (state_of kit session book) (state_of kit session' after) (Revise c.args.revision) (reply_answer told_text c.ask-reply.result) _
    (passed.1 ∙ ap Err (passed.2 ∙ untold.0)) untold.1
    (Asked-by kit session session' book after (request_of c.args.revision) told_text c.ask-reply.result responds c.ask-reply.ensures.noted)
