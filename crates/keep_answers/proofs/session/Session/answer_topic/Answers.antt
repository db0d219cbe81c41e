use Rattle.std.proofs.Common.{refl}
use Rattle.keep_answers.proofs.AnswerLemmas.{AnswersMeant-puts}
use Rattle.keep_answers.proofs.RestoreLemmas.{Audited-tells}
use Rattle.keep_answers.specs.Meaning.{Tell}
use Rattle.keep_answers.specs.State.{state_of}
use Rattle.keep_answers.proofs.session.Session.answer_topic.Goals as goal

pub returns-in-Audit-clause-answers : goal.returns-in-Audit-clause-answers
returns-in-Audit-clause-answers g c = λ kit.
    let state = state_of kit c.args.self.now c.args.book.now in
    let found = rw (c.view.ensures, c.ledger-in-Audit.ensures) at c.audit_with-found.ensures in
    AnswersMeant-puts _ _ state state (Tell c.args.topic) _ _ c.write_audit.ensures.puts (rw c.in-Audit.is (Audited-tells state c.audit_with-found.result found, refl))
