use Rattle.std.proofs.Common.{◌≡◌, ◌++◌, string_bytes}
use Rattle.std.specs.List.{flat_map}
use Rattle.keep_graph.specs.Dot.{edge_line}
use Rattle.keep_graph.proofs.dot.push_edges.Given as goal

abbrev pub invariant-loop-from : goal.invariant-loop-from
invariant-loop-from l =
    string_bytes l.text ++ flat_map (edge_line l.number) l.from-iterator
    ≡ string_bytes l.initial.text ++ flat_map (edge_line l.number) l.leaning.keys
