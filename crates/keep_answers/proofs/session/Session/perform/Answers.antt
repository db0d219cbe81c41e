-- What was planned on the present state is committed.
use Rattle.std.proofs.Common.{◌≡◌, ℕ, rules, subst}
use Rattle.keep_book.specs.Armed.{Responds, ledger_of}
use Rattle.keep_journal.specs.History.{length_of}
use Rattle.keep_journal.specs.declared.request.Request.TheVariants as request
use Rattle.keep_answers.proofs.session.Session.perform.Goals as goal

pub returns-clause-made : goal.returns-clause-made
returns-clause-made g c =
    let book = c.args.book.now in
    let planned = c.in_ok-planned.planned in
    let due = rw (c.view.ensures, c.ledger.ensures) at c.in_ok-planned.ensures.change in
    let seen : planned.seen ≡ length_of (ledger_of book).events = rw (c.view.ensures, c.ledger.ensures) at c.in_ok-planned.ensures.planned.seen in
    let asks = subst (λ (seen : ℕ). Responds book (request.Commit (record { change = planned.change; seen = seen })) c.commit.result.0 c.commit.new.book) seen c.commit.ensures.responds in
    (planned.change, due, asks, c.commit.ensures.noted, c.commit.ensures.sizes)

pub returns-in_err-planned-clause-refused : goal.returns-in_err-planned-clause-refused
returns-in_err-planned-clause-refused g c =
    let told = rw (c.view.ensures, c.ledger.ensures) at c.in_err-planned.ensures.change in
    search (rules, told)
