use Rattle.std.proofs.Common.{◌≡◌, ◌++◌, string_bytes}
use Rattle.std.specs.List.{flat_map}
use Rattle.keep_graph.specs.Tree.{below}
use Rattle.keep_graph.proofs.tree.push_below.Given as goal

abbrev pub invariant-loop-number : goal.invariant-loop-number
invariant-loop-number l =
    string_bytes l.text ++ flat_map (below l.graph) l.number-iterator
    ≡ string_bytes l.initial.text ++ flat_map (below l.graph) l.leaning.keys
