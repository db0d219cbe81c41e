use Rattle.std.proofs.Common.{List, ◌++◌, drop}
use Rattle.std.specs.FinMap as finite
use Rattle.keep_opening.specs.Leafing.{AreAlong}
use Rattle.keep_reading.specs.declared.leaf.Leaf as the_leaf
use Rattle.keep_opening.proofs.leaves.leaves_of.Given as goal

-- the leaves so far, with those under the other keys, are those under all keys
abbrev pub invariant-loop-key : goal.invariant-loop-key
invariant-loop-key g l =
    (rest : List the_leaf.Leaf) → AreAlong (finite.get l.stock) (drop l.key-index l.key-items) rest → AreAlong (finite.get l.stock) l.key-items (l.leaves.items ++ rest)
