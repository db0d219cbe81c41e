use Rattle.keep_catalog.proofs.Naming.{trees_name}
use Rattle.keep_catalog.proofs.place_laws.trees_name_what_their_nodes_name.Goals as goal

pub returns : goal.returns
returns c = trees_name
