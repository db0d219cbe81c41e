use Rattle.std.proofs.Common.{refl, ap, ◌∙◌}
use Rattle.keep_answers.proofs.AnswerLemmas.{AnswersMeant-puts}
use Rattle.keep_answers.specs.Meaning.{Note}
use Rattle.keep_answers.specs.State.{noted_under, notes_of, state_of}
use Rattle.keep_answers.proofs.session.Session.note.Goals as goal

pub returns-clause-answers : goal.returns-clause-answers
returns-clause-answers g c = λ kit.
    let name = c.args.name.now in
    let before = state_of kit c.args.self.now c.args.book.now in
    let noted = c.in_ok-insert.ensures.ok
    ∙ ap (λ repo. noted_under name repo (notes_of c.args.self.now.notes)) (rw c.ledger.ensures at c.in_ok-copy.ensures) in
    AnswersMeant-puts _ _ before _ (Note name) _ _ c.put_line.ensures.puts
    (record { text = refl; same = ap (λ notes. record before { notes = notes }) noted })
