use Rattle.std.proofs.Common.{◌≡◌, map, take, string_bytes}
use Rattle.std.specs.Str.{chars}
use Rattle.keep_patterns.proofs.leaving.path_of.Given as goal

abbrev pub invariant-loop-name : goal.invariant-loop-name
invariant-loop-name l = l.path.items ≡ map chars (map string_bytes (take l.name-index l.names))
