use Rattle.std.proofs.Common.{◌≡◌, ◌++◌, string_bytes}
use Rattle.std.specs.List.{flat_map}
use Rattle.keep_graph.specs.Dot.{link_lines}
use Rattle.keep_graph.proofs.dot.push_links.Given as goal

abbrev pub invariant-loop-number : goal.invariant-loop-number
invariant-loop-number l =
    string_bytes l.text ++ flat_map link_lines l.number-iterator
    ≡ string_bytes l.initial.text ++ flat_map link_lines l.graph.entries
