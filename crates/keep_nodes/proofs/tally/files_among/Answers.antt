use Rattle.std.proofs.Common.{◌∙◌, rules, tests}
use Rattle.std.proofs.lemmas.Iterator.{YieldsList-from_slice}
use Rattle.std.proofs.lemmas.Iterator.Consumers.{YieldsList-at, YieldsList-from_filter, count_from_yields_List}
use Rattle.std.proofs.lemmas.List.Sums.{length-filter}
use Rattle.keep_nodes.specs.declared.path_node.PathNode.{PathNode}
use Rattle.keep_tree.specs.Tree.{kind_view}
use Rattle.keep_nodes.specs.Tallies as spec
use Rattle.keep_nodes.proofs.tally.files_among.Goals as goal

pub returns : goal.returns
returns c =
    count_from_yields_List c.filter-files.result c.count.result c.count.ensures.ran (
    YieldsList-from_filter _ (λ (entry : PathNode). spec.is_file (kind_view entry.node.kind))
    (YieldsList-at c.filter-files.ensures.source (YieldsList-from_slice c.args.entries.now cc))
    c.filter-files.ensures.closure (λ x b q k. search (rules, tests)))
    ∙ length-filter (λ (entry : PathNode). spec.is_file (kind_view entry.node.kind)) c.args.entries.now
