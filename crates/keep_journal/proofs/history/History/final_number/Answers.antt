use Rattle.keep_journal.proofs.history.History.final_number.Goals as goal

pub returns : goal.returns
returns c = rw (← c.self.view_is) c.self.invariant.last_final
