-- Keys in their order.
use Rattle.std.specs.Prelude.{List, map}
use Rattle.std.specs.FinMap as finite
use Rattle.std.specs.declared.cmp.Ordering.{Ordering}

-- a key, with nothing at it
abbrev pub keyed : {K : Type 0} → K → K × Unit {0}
keyed key = (key, tt)

-- these keys in their order, each once: the keys of a map that has nothing at each
abbrev pub in_order : {K : Type 0} → (K → K → Ordering) → List K → List K
in_order R keys = finite.keys (finite.from_entries {R = R} (map keyed keys))
