use Rattle.std.proofs.Common.{◌≡◌, map, take}
use Rattle.keep_patterns.specs.Parsing as spec
use Rattle.keep_patterns.proofs.parsing.components_of.Given as goal

abbrev pub invariant-loop-part : goal.invariant-loop-part
invariant-loop-part l = l.made.items ≡ map (λ part. spec.component_of part.now) (take l.part-index l.parts)
