use Rattle.std.proofs.Common.{◌≡◌, map, take}
use Rattle.std.specs.List.{flat_map}
use Rattle.keep_named.specs.declared.listed_snapshot.ListedSnapshot.{ListedSnapshot}
use Rattle.keep_patterns.specs.Parsing.{pattern_view}
use Rattle.keep_looks.specs.Found.{path_data, paths_of}
use Rattle.keep_looks.specs.Shown.{unlisted_of}
use Rattle.keep_looks.proofs.path_rows.found_in.Given as goal

abbrev pub invariant-loop-row : goal.invariant-loop-row
invariant-loop-row l =
    (map path_data l.rows.items ≡ flat_map (λ (row : ListedSnapshot). paths_of l.view.repo (pattern_view l.pattern) row.id) (take l.row-index l.snapshots))
    × (l.unlisted.items ≡ flat_map (λ (row : ListedSnapshot). unlisted_of l.view.repo row.id) (take l.row-index l.snapshots))
