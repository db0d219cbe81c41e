use Rattle.std.proofs.Common.{refl}
use Rattle.keep_answers.proofs.AnswerLemmas.{AnswersMeant-puts}
use Rattle.keep_answers.specs.Meaning.{Compare}
use Rattle.keep_answers.specs.State.{state_of}
use Rattle.keep_answers.proofs.session.Session.compare.Goals as goal

pub returns-clause-answers : goal.returns-clause-answers
returns-clause-answers g c = λ kit.
    let state = state_of kit c.args.self.now c.args.book.now in
    let same = rw (c.live.ensures, c.ledger.ensures) at c.same_as-same.ensures in
    AnswersMeant-puts _ _ state state (Compare c.args.name.now c.args.noted.now) _ _ c.put_line.ensures.puts ((c.same_as-same.result, same, refl), refl)
