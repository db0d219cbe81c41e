use Rattle.std.proofs.Common.{◌≢◌, ap, rules}
use Rattle.keep_docs.specs.declared.doc.DocError.TheVariants.{Memory}
use Rattle.keep_tree.specs.declared.tree.TreeError.TheVariants.{Doc}
use Rattle.keep_catalog.specs.Naming.{nodes_read, read_tree_of}
use Rattle.keep_catalog.proofs.named_blobs.nodes_in.Goals as goal

pub returns-in-Ok : goal.returns-in-Ok
unfolding read_tree_of
returns-in-Ok c = ap nodes_read c.in-Ok.ensures.read

pub returns-else-is_memory : goal.returns-else-is_memory
unfolding read_tree_of
returns-else-is_memory c _ =
    let other : c.in-Err.refusal ≢ Doc Memory = λ h. search rules in
    ap nodes_read (c.in-Err.ensures.read other)
