use Rattle.keep_planned_books.proofs.Sound as lemmas
use Rattle.keep_planned_books.proofs.sound_books.selections_of_books_are_sound.Goals as goal

pub returns : goal.returns
returns c = lemmas.selections_of_books_are_sound c.selections_are_sound.ensures
