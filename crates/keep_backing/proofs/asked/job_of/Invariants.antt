use Rattle.std.proofs.Common.{◌≡◌, map, string_bytes, take}
use Rattle.keep_patterns.specs.Parsing.{after_slash}
use Rattle.keep_backing.proofs.asked.job_of.Given as goal

abbrev pub invariant-loop-place : goal.invariant-loop-place
invariant-loop-place l = map string_bytes l.paths.items ≡ map after_slash (map string_bytes (take l.place-index l.places))
