use Rattle.keep_planned_books.proofs.Knowing.{views_know}
use Rattle.keep_planned_books.proofs.sound_books.views_know_what_books_know.Goals as goal

pub returns : goal.returns
returns c = views_know c.the_known_are_there_or_added.ensures
