use Rattle.std.specs.Fmt.{digits}
use Rattle.json.specs.Print.{escape_byte}
use Rattle.keep_entries.proofs.event_text.put_event.Goals as goal

pub returns-in-Undo-clause-text : goal.returns-in-Undo-clause-text
unfolding escape_byte digits
returns-in-Undo-clause-text c = rw c.in-Undo.is c.put_turn.ensures.text

pub returns-in-Redo-clause-text : goal.returns-in-Redo-clause-text
unfolding escape_byte digits
returns-in-Redo-clause-text c = rw c.in-Redo.is c.put_turn-in-Redo.ensures.text
