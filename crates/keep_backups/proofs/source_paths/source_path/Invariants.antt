use Rattle.std.proofs.Common.{◌≡◌, drop, map, string_bytes}
use Rattle.keep_backups.specs.Paths.{path_from, source_path}
use Rattle.keep_backups.proofs.source_paths.source_path.Given as goal

abbrev pub invariant-loop-name : goal.invariant-loop-name
invariant-loop-name l =
    path_from (string_bytes l.whole) (map (λ name. name.now) (drop l.name-index l.name-items)) ≡ source_path l.path
