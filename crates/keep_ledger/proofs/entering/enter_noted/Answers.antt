-- The note was the last one.
use Rattle.keep_ledger.proofs.entering.enter_noted.Goals as goal

pub returns-in-Err-clause-same_notes : goal.returns-in-Err-clause-same_notes
returns-in-Err-clause-same_notes g c = c.forget.ensures c.args.touch.now _ c.in_ok-note.ensures.ok
