use Rattle.std.proofs.Common.{◌≡◌, map, take}
use Rattle.serde_json.specs.View.{view}
use Rattle.keep_tree.specs.Tree.{node_view}
use Rattle.keep_tree.specs.Written.{node_data}
use Rattle.keep_tree.proofs.tree_writing.node_values.Given as goal

abbrev pub invariant-loop-node : goal.invariant-loop-node
invariant-loop-node l = map view l.values.items ≡ map node_data (map node_view (take l.node-index l.nodes))
