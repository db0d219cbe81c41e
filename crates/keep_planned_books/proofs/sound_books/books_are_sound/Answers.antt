use Rattle.keep_planned_books.proofs.Sound as lemmas
use Rattle.keep_planned_books.proofs.sound_books.books_are_sound.Goals as goal

pub returns : goal.returns
returns c = lemmas.books_are_sound c.filters_are_selections.ensures c.selections_of_books_are_sound.ensures
