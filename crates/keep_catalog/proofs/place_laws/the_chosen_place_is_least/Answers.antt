use Rattle.keep_catalog.proofs.Least.{chosen_so}
use Rattle.keep_catalog.proofs.place_laws.the_chosen_place_is_least.Goals as goal

pub returns : goal.returns
returns c = chosen_so
