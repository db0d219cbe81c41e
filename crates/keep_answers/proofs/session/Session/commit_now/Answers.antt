-- The length that was seen is that of the book's history.
use Rattle.std.proofs.Common.{◌≡◌, ℕ, subst}
use Rattle.keep_book.specs.Armed.{Responds, ledger_of}
use Rattle.keep_journal.specs.History.{length_of}
use Rattle.keep_journal.specs.declared.request.Request.TheVariants as request
use Rattle.keep_answers.proofs.session.Session.commit_now.Goals as goal

pub returns-clause-responds : goal.returns-clause-responds
returns-clause-responds g c =
    let book = c.args.book.now in
    let seen : c.length-seen.result ≡ length_of (ledger_of book).events = rw (c.history.ensures.events, c.ledger.ensures) at c.length-seen.ensures in
    subst (λ (seen : ℕ). Responds book (request.Commit (record { change = c.args.change; seen = seen })) c.commit.result.0 c.commit.new.book) seen c.commit.ensures.responds
