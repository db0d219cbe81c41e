use Rattle.std.proofs.Common.{map}
use Rattle.serde_json.specs.View.{view}
use Rattle.keep_docs.proofs.Each.{ReadUpTo}
use Rattle.keep_tree.specs.Tree.{node_in, node_view}
use Rattle.keep_tree.proofs.node.nodes_in.Given as goal

abbrev pub invariant-loop-item : goal.invariant-loop-item
invariant-loop-item l = ReadUpTo view node_in l.items l.item-index (map node_view l.nodes.items)
