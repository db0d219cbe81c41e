-- Paths below the root of a tree. The names on a path are parted by slashes, and the root's path is empty.
use Rattle.std.specs.Prelude.{◌≡◌, ℕ, ◌⊎◌, List, [], ◌∷◌, ◌++◌, codes, string_bytes}
use Rattle.std.specs.Str.Iter.{LacksByte}
use Rattle.std.specs.declared.string.String.{String}

-- one name more leads from the folder to the path
abbrev pub LiesRightIn : List ℕ → List ℕ → Type 0
LiesRightIn path folder = (name : List ℕ) × LacksByte 47 name × (path ≡ folder ++ (codes "/" ++ name))

-- the path lies at the root
abbrev pub LiesAtRoot : List ℕ → Type 0
LiesAtRoot path = LacksByte 47 path

-- the folder holds what stands at the path, be it the root or another one
abbrev pub IsHeldIn : List ℕ → List ℕ → Type 0
IsHeldIn path folder = ((folder ≡ []) × LiesAtRoot path) ⊎ LiesRightIn path folder

-- the path is one of these
abbrev pub IsListed : {A : Type 0} → List (String A) → List ℕ → Type 0
IsListed [] path = ⊥
IsListed (text ∷ texts) path = (string_bytes text ≡ path) ⊎ IsListed texts path
