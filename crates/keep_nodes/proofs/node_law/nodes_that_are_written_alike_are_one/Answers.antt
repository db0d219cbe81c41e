use Rattle.keep_nodes.proofs.Alike.{alike}
use Rattle.keep_nodes.proofs.node_law.nodes_that_are_written_alike_are_one.Goals as goal

pub returns : goal.returns
returns c = alike
