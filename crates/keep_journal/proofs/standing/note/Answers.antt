-- Each kind of event turns the standings as it says.
use Rattle.keep_journal.proofs.Standings.{of_kind, standings-Commit, standings-Empty, standings-Redo, standings-Undo}
use Rattle.keep_journal.proofs.standing.note.Goals as goal

pub returns-in-Commit : goal.returns-in-Commit
returns-in-Commit c j at numbered final is fits =
    rw (of_kind c.args.event _ c.in-Commit.is, c.push_reserved.ensures.items, is) (standings-Commit j at _ _ numbered (rw c.in-Commit.is at fits))

pub returns-in-Undo : goal.returns-in-Undo
returns-in-Undo c j at numbered final is fits =
    let said = rw c.in-Undo.is at fits in
    rw (of_kind c.args.event _ c.in-Undo.is, is, final) (standings-Undo j at _ _ numbered said.0 said.1 (rw (is, final) at c.index_mut.ensures.value))

pub returns-in-Redo : goal.returns-in-Redo
returns-in-Redo c j at numbered final is fits =
    let said = rw c.in-Redo.is at fits in
    rw (of_kind c.args.event _ c.in-Redo.is, is, final) (standings-Redo j at _ _ numbered said.0 said.1 (rw (is, final) at c.index_mut-in-Redo.ensures.value))

pub returns : goal.returns
returns c j at numbered final is fits =
    let said = rw c.in-Empty.is at fits in
    rw (of_kind c.args.event _ c.in-Empty.is, c.let_go.ensures, is, final) (standings-Empty j at _ _ numbered said.1)
