use Rattle.keep_journal.proofs.history.History.notices.Goals as goal

pub returns-clause-numbered : goal.returns-clause-numbered
returns-clause-numbered c = rw (← c.self.view_is) c.self.invariant.numbered
