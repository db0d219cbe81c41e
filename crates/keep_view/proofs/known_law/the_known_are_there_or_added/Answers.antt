use Rattle.keep_view.proofs.Knowing.{known_are_there_or_added}
use Rattle.keep_view.proofs.known_law.the_known_are_there_or_added.Goals as goal

pub returns : goal.returns
returns c = known_are_there_or_added
