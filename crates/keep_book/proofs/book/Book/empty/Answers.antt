-- The kept changes make the live repository of the opening after it.
use Rattle.std.proofs.Common.{◌≡◌, ap}
use Rattle.keep_ledger.proofs.Answered.{unless_fault}
use Rattle.keep_ledger.specs.Ends.{heard}
use Rattle.keep_ledger.specs.LedgerState.{LedgerState}
use Rattle.keep_ledger.specs.Reply.{state_after}
use Rattle.keep_journal.specs.declared.request.Request.TheVariants.{Empty}
use Rattle.keep_book.specs.Armed.{hooks_of, ledger_of}
use Rattle.keep_book.proofs.Replied.{left_by_empty}
use Rattle.keep_book.proofs.book.Book.empty.Goals as goal

pub returns-clause-live : goal.returns-clause-live
returns-clause-live g c =
    let before = ledger_of c.args.self.now in
    let after = ledger_of c.ask.new.self in
    unless_fault (λ r. after ≡ state_after before (Empty c.args.n) (heard before (Empty c.args.n) r) → after.live ≡ before.live) c.ask.result
    (λ same. ap (λ (l : LedgerState). l.live) same)
    (λ other same. left_by_empty before (hooks_of c.args.self.now).vetoes c.args.n (heard before (Empty c.args.n) c.ask.result) after
    c.ask.ensures.open (c.ask.ensures.responds.replies other) same)
    c.ask.ensures.responds.ledger
