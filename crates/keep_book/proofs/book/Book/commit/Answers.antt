-- What was accepted has just been committed.
use Rattle.std.specs.Prelude.{IfOk}
use Rattle.keep_ledger.proofs.Answered.{unless_fault}
use Rattle.keep_ledger.specs.Ends.{heard}
use Rattle.keep_ledger.specs.LedgerState.{JustCommitted}
use Rattle.keep_journal.specs.declared.request.Request.TheVariants.{Commit}
use Rattle.keep_book.specs.Armed.{hooks_of, ledger_of}
use Rattle.keep_book.proofs.Replied.{just_committed}
use Rattle.keep_book.proofs.book.Book.commit.Goals as goal

pub returns-clause-made : goal.returns-clause-made
returns-clause-made g c =
    let before = ledger_of c.args.self.now in
    let after = ledger_of c.ask.new.self in
    unless_fault (λ r. IfOk (heard before (Commit c.args.planned) r) (λ told. JustCommitted before told.number after)) c.ask.result tt
    (λ other. just_committed before (hooks_of c.args.self.now).vetoes c.args.planned (heard before (Commit c.args.planned) c.ask.result) after
    c.ask.ensures.open (c.ask.ensures.responds.replies other) c.ask.ensures.responds.ledger)
