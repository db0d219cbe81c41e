use Rattle.std.proofs.Common.{◌≡◌, drop, map}
use Rattle.keep_nodes.specs.Entries.{entry_view}
use Rattle.keep_nodes.specs.Differences as spec
use Rattle.keep_nodes.specs.Lent.{paths_of}
use Rattle.keep_nodes.proofs.by_path.put_all.Given as goal

abbrev pub invariant-loop-entry : goal.invariant-loop-entry
invariant-loop-entry l =
    spec.put_all (paths_of l.nodes) (map entry_view (drop l.entry-index l.entries))
    ≡ spec.put_all (paths_of l.initial.nodes) (map entry_view l.entries)
