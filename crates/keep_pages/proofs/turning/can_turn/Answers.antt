use Rattle.keep_pages.proofs.turning.can_turn.Goals as goal

pub returns-in-Undo : goal.returns-in-Undo
returns-in-Undo c = rw c.in-Undo.is c.can_turn_again.ensures

pub returns-in-Redo : goal.returns-in-Redo
returns-in-Redo c = rw c.in-Redo.is c.can_turn_again-in-Redo.ensures
