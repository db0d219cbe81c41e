-- The reply depends on the others alone.
use Rattle.keep_ledger.proofs.Answered.{unless_fault}
use Rattle.keep_ledger.proofs.Restoring.{restored}
use Rattle.keep_ledger.proofs.Replying.{left_by_undo, taken_back}
use Rattle.keep_ledger.specs.Ends.{heard}
use Rattle.keep_ledger.specs.Reply.{Restores}
use Rattle.keep_journal.specs.declared.request.Request.TheVariants.{Undo}
use Rattle.keep_book.specs.Armed.{hooks_of, ledger_of}
use Rattle.keep_book.proofs.book.Book.undo.Goals as goal

pub returns-clause-exact : goal.returns-clause-exact
returns-clause-exact g c other there in_it room =
    let before = ledger_of c.args.self.now in
    let after = ledger_of c.ask.new.self in
    let reply = heard before (Undo c.args.n) c.ask.result in
    taken_back before (hooks_of c.args.self.now).vetoes c.args.n reply after.live c.ask.ensures.open.numbered there in_it room (c.ask.ensures.responds.replies other)
    (left_by_undo before c.args.n reply after c.ask.ensures.responds.ledger)

pub returns-clause-restores : goal.returns-clause-restores
returns-clause-restores g c before just =
    let now = ledger_of c.args.self.now in
    let after = ledger_of c.ask.new.self in
    unless_fault (λ r. Restores before.live (heard now (Undo c.args.n) r) after.live) c.ask.result (λ m e. cc e, tt)
    (λ other. restored before now (hooks_of c.args.self.now).vetoes c.args.n (heard now (Undo c.args.n) c.ask.result) after just
    (c.ask.ensures.responds.replies other) c.ask.ensures.responds.ledger)
