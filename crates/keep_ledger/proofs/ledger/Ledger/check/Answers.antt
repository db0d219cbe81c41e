-- The first later change that leans on a change is the first of the others that can't be made.
use Rattle.keep_ledger.proofs.Asking.{begins, passes_undo}
use Rattle.keep_journal.specs.declared.request.Request.TheVariants.{Undo}
use Rattle.keep_ledger.proofs.ledger.Ledger.check.Goals as goal

pub returns-in-Undo-clause-formed : goal.returns-in-Undo-clause-formed
returns-in-Undo-clause-formed g c formed =
    rw c.in-Undo.is (passes_undo c.args.self.now.state c.in-Undo.n _ c.history-in-Undo.ensures.open (rw c.history-in-Undo.ensures.events at c.check_undo.ensures.refusal))

pub returns-in-Undo-clause-begins : goal.returns-in-Undo-clause-begins
returns-in-Undo-clause-begins g c =
    rw c.in-Undo.is
    (begins c.args.self.now.state (Undo c.in-Undo.n) _ tt
    (passes_undo c.args.self.now.state c.in-Undo.n _ c.history-in-Undo.ensures.open (rw c.history-in-Undo.ensures.events at c.check_undo.ensures.refusal)))
