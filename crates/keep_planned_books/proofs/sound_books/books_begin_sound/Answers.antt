use Rattle.keep_planned_books.proofs.Sound as lemmas
use Rattle.keep_planned_books.proofs.sound_books.books_begin_sound.Goals as goal

pub returns : goal.returns
returns c = lemmas.books_begin_sound
