use Rattle.std.proofs.Common.{sym, ap, ◌∙◌, ◌++◌}
use Rattle.keep_tree.specs.Tree.{node_view}
use Rattle.keep_catalog.specs.Naming.{named_of}
use Rattle.keep_catalog.proofs.Naming.{named-taken}
use Rattle.keep_catalog.proofs.named_blobs.named_blobs.Goals as goal

pub loop-node-preserved : goal.loop-node-preserved
loop-node-preserved c =
    c.in_ok-add_named.ensures
    ∙ ap (λ names. names ++ named_of (node_view c.node-item.result)) c.loop-node.invariant
    ∙ sym (named-taken c.args.nodes.now c.loop-node.node-index c.node-item.result c.loop-node-test.true c.node-item.is)
