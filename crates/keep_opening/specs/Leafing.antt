-- The leaves that stand under the keys of a shelf.
use Rattle.std.specs.Prelude.{◌≡◌, ℕ, List, [], ◌∷◌, ◌++◌, Option, Some, None}
use Rattle.keep_shelf.specs.declared.key.Key.{Key}
use Rattle.keep_shelf.specs.declared.key.Key.TheVariants.{Live, Trash, Entry}
use Rattle.keep_moves.specs.Move.{Stand}
use Rattle.keep_reading.specs.Leaves.{Tells}
use Rattle.keep_reading.specs.declared.leaf.Leaf.{Leaf}

-- the leaf of this number says what the bytes tell; without bytes there is none
abbrev pub AreLeavesOf : ℕ → Option (List ℕ) → List Leaf → Type 0
AreLeavesOf k None leaves = leaves ≡ []
AreLeavesOf k (Some bytes) leaves = (leaf : Leaf) × (leaves ≡ leaf ∷ []) × (leaf.at ≡ k) × Tells k bytes leaf.event

-- these are the leaves under the key, none but under that of an entry
abbrev pub AreUnder : Stand → Key → List Leaf → Type 0
AreUnder stand (Live name) leaves = leaves ≡ []
AreUnder stand (Trash n name) leaves = leaves ≡ []
AreUnder stand (Entry k) leaves = AreLeavesOf k (stand (Entry k)) leaves

-- and under each of the keys, in turn
abbrev pub AreAlong : Stand → List Key → List Leaf → Type 0
AreAlong stand [] leaves = leaves ≡ []
AreAlong stand (key ∷ keys) leaves =
    (first rest : List Leaf) × (leaves ≡ first ++ rest) × AreUnder stand key first × AreAlong stand keys rest
