use Rattle.std.proofs.Common.{◌≡◌, ◌++◌, string_bytes}
use Rattle.std.specs.List.{flat_map}
use Rattle.keep_graph.specs.Tree.{branch}
use Rattle.keep_graph.proofs.tree.graph_text.Given as goal

abbrev pub invariant-loop-number : goal.invariant-loop-number
invariant-loop-number l =
    string_bytes l.text ++ flat_map (branch l.graph) l.number-iterator ≡ flat_map (branch l.graph) l.graph.entries
