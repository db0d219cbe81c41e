use Rattle.keep_planned_books.proofs.Choosing as lemmas
use Rattle.keep_planned_books.proofs.selected.planned_selections_are_whole.Goals as goal

pub returns : goal.returns
returns c =
    lemmas.planned_selections_are_whole c.planned_changes_keep_whole.ensures.whole c.views_know_what_books_know.ensures
    c.selections_are_whole.ensures
