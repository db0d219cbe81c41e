use Rattle.std.proofs.Common.{◌≡◌, map, take}
use Rattle.std.specs.Str.{chars}
use Rattle.keep_sources.proofs.excluding.names_of.Given as goal

-- the characters of the names so far
abbrev pub invariant-loop-part : goal.invariant-loop-part
invariant-loop-part l = l.names.items ≡ map chars (map (λ p. p.now) (take l.part-index l.parts))
