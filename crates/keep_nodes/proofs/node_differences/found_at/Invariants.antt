use Rattle.std.proofs.Common.{◌≡◌, ◌++◌, map}
use Rattle.std.specs.List.{filter_map}
use Rattle.keep_nodes.specs.Differences.{difference_at}
use Rattle.keep_nodes.specs.Lent.{difference_view, paths_of}
use Rattle.keep_nodes.proofs.Paths.{path_in}
use Rattle.keep_nodes.proofs.node_differences.found_at.Given as goal

abbrev pub invariant-loop-path : goal.invariant-loop-path
invariant-loop-path l =
    map difference_view l.found.items ++ filter_map (difference_at (paths_of l.old) (paths_of l.new)) (map path_in l.path-iterator)
    ≡ filter_map (difference_at (paths_of l.old) (paths_of l.new)) (map path_in l.all.entries)
