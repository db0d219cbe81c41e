use Rattle.std.proofs.Common.{◌≡◌, ◌+◌, ◌-◌, ◌*◌, ◌++◌, map, take}
use Rattle.std.specs.List.{flat_map}
use Rattle.keep_read.specs.Contents.{content_view}
use Rattle.keep_read.specs.Found.{AreBare}
use Rattle.keep_read.proofs.Walking.{node_adds}
use Rattle.keep_read.proofs.content_walk.Walk.+walking.Given as goal

abbrev pub decreases-add_tree : goal.decreases-add_tree
decreases-add_tree l = 2 * l.levels

abbrev pub decreases-add_node : goal.decreases-add_node
decreases-add_node l = 2 * l.levels + 1

abbrev pub invariant-add_tree-loop-node : goal.invariant-add_tree-loop-node
invariant-add_tree-loop-node l = record {
  contents : map content_view l.walked.contents.items ≡ map content_view l.initial.walked.contents.items ++ flat_map (node_adds l.self.catalog.now (l.levels - 1) l.path) (take l.node-index l.node-items);
  bare : AreBare l.self.catalog.now l.walked.bare;
}
