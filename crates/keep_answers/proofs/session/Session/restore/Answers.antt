use Rattle.std.proofs.Common.{refl}
use Rattle.keep_answers.proofs.AnswerLemmas.{AnswersMeant-puts}
use Rattle.keep_answers.proofs.RestoreLemmas.{Restored-tells}
use Rattle.keep_answers.specs.Meaning.{Restore}
use Rattle.keep_answers.specs.State.{state_of}
use Rattle.keep_answers.proofs.session.Session.restore.Goals as goal

pub returns-clause-answers : goal.returns-clause-answers
returns-clause-answers g c = λ kit.
    let state = state_of kit c.args.self.now c.args.book.now in
    let told = rw (c.view.ensures, c.ledger.ensures) at c.restore-outcome.ensures.restored in
    let none = rw (c.view.ensures, c.ledger.ensures) at c.restore-outcome.ensures.none in
    AnswersMeant-puts _ _ state state (Restore c.args.snapshot) _ _ c.write_restore.ensures.puts (Restored-tells state.book.live c.args.snapshot c.restore-outcome.result told none, refl)
