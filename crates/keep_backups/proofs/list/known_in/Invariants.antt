use Rattle.std.proofs.Common.{◌≡◌, ℕ, List, None, drop, map}
use Rattle.keep_nodes.specs.Entries.{entry_view}
use Rattle.keep_backups.specs.Known.{known_at, known_behind}
use Rattle.keep_backups.proofs.list.known_in.Given as goal

abbrev pub invariant-loop-entry : goal.invariant-loop-entry
invariant-loop-entry l =
    (path : List ℕ) → known_behind (known_at l.all path) path (map entry_view (drop l.entry-index l.entries))
    ≡ known_behind None path (map entry_view l.entries)
