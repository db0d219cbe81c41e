use Rattle.std.proofs.Common.{◌≡◌, map, take}
use Rattle.std.specs.List.{flat_map}
use Rattle.keep_tree.specs.Tree.{node_view}
use Rattle.keep_catalog.specs.Naming.{named_of}
use Rattle.keep_catalog.proofs.named_blobs.named_blobs.Given as goal

abbrev pub invariant-loop-node : goal.invariant-loop-node
invariant-loop-node l = l.names.items ≡ flat_map named_of (map node_view (take l.node-index l.nodes))
