use Rattle.std.proofs.Common.{◌≡◌, ◌+◌, ◌-◌, ◌*◌, length, map}
use Rattle.std.specs.Vec.Iter.{into_iter_items, into_iter_len}
use Rattle.keep_tree.specs.Tree.{node_view}
use Rattle.keep_patterns.specs.Parsing.{pattern_view}
use Rattle.keep_rewrite.specs.Leaving.{nodes_in}
use Rattle.keep_rewrite.specs.Walking.{trees_of}
use Rattle.keep_rewrite.proofs.Turned.{IsAt}
use Rattle.keep_rewrite.proofs.rewrite_walk.Walk.+walking.Given as goal

abbrev pub decreases-leave : goal.decreases-leave
decreases-leave l = 2 * l.levels

abbrev pub decreases-leave_node : goal.decreases-leave_node
decreases-leave_node l = 2 * l.levels + 1

abbrev pub invariant-leave-loop-node : goal.invariant-leave-loop-node
invariant-leave-loop-node l = record {
  counted : into_iter_len l.node-iterator ≡ length (into_iter_items l.node-iterator);
  is_at : IsAt l.self.catalog.now (map pattern_view l.self.patterns.now) (l.levels - 1) l.fn.rests (nodes_in l.self.catalog.now l.tree) (trees_of l.initial.walked) (map node_view (into_iter_items l.node-iterator)) (map node_view l.kept.items) l.loses l.walked;
}
