-- What the live repository and the later changes say is what the folds say.
use Rattle.keep_ledger.proofs.Asking.{passes_redo}
use Rattle.keep_ledger.proofs.ledger.Ledger.check_state.Goals as goal

pub returns-in-Commit-clause-passes : goal.returns-in-Commit-clause-passes
returns-in-Commit-clause-passes g c = rw c.in-Commit.is (rw c.live.ensures at c.check_met.ensures.refusal)

pub returns-in-Redo-clause-passes : goal.returns-in-Redo-clause-passes
returns-in-Redo-clause-passes g c =
    rw c.in-Redo.is
    (passes_redo c.args.self.now.state c.in-Redo.n _ c.history.ensures.open (rw c.in-Redo.is at c.requires)
    (rw (c.history.ensures.events, c.live-in-Redo.ensures) at c.check_blocked.ensures.passes))
