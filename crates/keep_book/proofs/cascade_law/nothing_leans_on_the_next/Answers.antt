use Rattle.keep_book.proofs.Undos.{nothing_leans}
use Rattle.keep_book.proofs.cascade_law.nothing_leans_on_the_next.Goals as goal

pub returns : goal.returns
returns c = nothing_leans
