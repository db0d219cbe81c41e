use Rattle.std.proofs.Common.{◌≡◌, map, drop, string_bytes}
use Rattle.keep_sources.specs.Job as spec
use Rattle.keep_sources.proofs.asked_paths.is_wanted.Given as goal

-- what is left decides
abbrev pub invariant-loop-chosen : goal.invariant-loop-chosen
invariant-loop-chosen l = spec.is_wanted (map string_bytes (drop l.chosen-index l.paths)) l.path ≡ spec.is_wanted (map string_bytes l.paths) l.path
