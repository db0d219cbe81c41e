use Rattle.std.proofs.Common.{◌≡◌, ◌+◌, ◌-◌, ◌*◌, length, map}
use Rattle.std.specs.Vec.Iter.{into_iter_items, into_iter_len}
use Rattle.keep_tree.specs.Tree.{node_view}
use Rattle.keep_read.specs.Contents.{nodes_in}
use Rattle.keep_nodes.specs.Entries.{entry_view}
use Rattle.keep_nodes.proofs.Walking.{Turn}
use Rattle.keep_nodes.proofs.entry_walk.Walk.+walking.Given as goal

abbrev pub decreases-add_node : goal.decreases-add_node
decreases-add_node l = 2 * l.levels + 1

abbrev pub decreases-add_tree : goal.decreases-add_tree
decreases-add_tree l = 2 * l.levels

abbrev pub invariant-add_tree-loop-node : goal.invariant-add_tree-loop-node
invariant-add_tree-loop-node l = record {
  counted : into_iter_len l.node-iterator ≡ length (into_iter_items l.node-iterator);
  turn : Turn l.self.catalog.now (l.levels - 1) l.path (nodes_in l.self.catalog.now l.fn.tree) (map entry_view l.initial.entries.items) (map entry_view l.entries.items) (map node_view (into_iter_items l.node-iterator));
}
