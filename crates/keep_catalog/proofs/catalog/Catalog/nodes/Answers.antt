use Rattle.std.proofs.Common.{◌≡◌, List, Result, Err, map, sym, ap, subst, ◌∙◌}
use Rattle.keep_docs.specs.Doc.{Answers}
use Rattle.keep_tree.specs.Tree.{NodeData, node_view}
use Rattle.keep_catalog.specs.Naming.{nodes_at_spot, nodes_under}
use Rattle.keep_catalog.specs.declared.reach_error.ReachError.{ReachError}
use Rattle.keep_catalog.specs.declared.reach_error.ReachError.TheVariants.{Memory}
use Rattle.keep_catalog.proofs.Naming.{nodes_nowhere, nodes_there}
use Rattle.keep_catalog.proofs.catalog.Catalog.nodes.Goals as goal

pub returns-in_default : goal.returns-in_default
returns-in_default c _ =
    nodes_nowhere c.args.self.now c.args.tree c.tree-blob.result c.tree-blob.ensures (sym c.in_default.ensures) ∙ ap Err (sym c.missing.ensures)

pub returns : goal.returns
returns c =
    let is : nodes_at_spot c.args.self.now c.in-Some.spot ≡ nodes_under c.args.self.now c.args.tree =
    sym (nodes_there c.args.self.now c.args.tree c.tree-blob.result c.tree-blob.ensures _ (sym c.in-Some.ensures)) in
    let A : Result (List NodeData) ReachError → Type 0 = λ due. Answers Memory (λ nodes. map node_view nodes.items) due c.nodes_at.result in
    subst A is c.nodes_at.ensures
