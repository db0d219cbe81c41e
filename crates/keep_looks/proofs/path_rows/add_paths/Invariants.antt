use Rattle.std.proofs.Common.{◌≡◌, ◌++◌, map, take}
use Rattle.keep_nodes.specs.Choosing.{lent_view}
use Rattle.keep_looks.specs.Found.{path_data, path_of}
use Rattle.keep_looks.proofs.path_rows.add_paths.Given as goal

abbrev pub invariant-loop-entry : goal.invariant-loop-entry
invariant-loop-entry l =
    map path_data l.rows.items
    ≡ map path_data l.initial.rows.items ++ map (path_of l.snapshot) (map lent_view (take l.entry-index l.found))
