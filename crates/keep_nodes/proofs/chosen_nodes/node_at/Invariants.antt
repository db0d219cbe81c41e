use Rattle.std.proofs.Common.{◌≡◌, drop, map}
use Rattle.keep_nodes.specs.Choosing as spec
use Rattle.keep_nodes.specs.Entries.{entry_view}
use Rattle.keep_nodes.proofs.chosen_nodes.node_at.Given as goal

abbrev pub invariant-loop-entry : goal.invariant-loop-entry
invariant-loop-entry l =
    spec.node_at l.path (map entry_view (drop l.entry-index l.entries)) ≡ spec.node_at l.path (map entry_view l.entries)
