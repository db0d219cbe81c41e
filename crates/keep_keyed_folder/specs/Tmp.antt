-- The file that is under way.
use Rattle.std.specs.Prelude.{◌≡◌, ◌||◌, ◌⊎◌, ℕ, Bool, false, IsTrue, None, List, codes, nat_eq}
use Rattle.std.specs.List.{starts_with}
use Rattle.std.specs.Str.{bytes_eq}
use Rattle.keep_files.specs.Path.{LiesAtRoot}
use Rattle.keep_files.specs.Stands.{Stands, is_file, is_folder}

-- what a run calls it: tmp, or tmp- and something of its own
abbrev pub is_tmp_name : List ℕ → Bool
is_tmp_name name = bytes_eq name (codes "tmp") || starts_with nat_eq name (codes "tmp-")

-- a file that is under way lies at the root
abbrev pub IsTmp : List ℕ → Type 0
IsTmp path = LiesAtRoot path × IsTrue (is_tmp_name path)

-- no file is under way
abbrev pub HasNoLeftovers : Stands → Type 0
HasNoLeftovers stands = (path : List ℕ) → IsTmp path → is_file (stands path) ≡ false

-- files that were under way are gone, all of them or some, and all else is as it was
abbrev pub IsCleared : Stands → Stands → Type 0
IsCleared before after = (path : List ℕ) → (after path ≡ before path) ⊎ (IsTmp path × (is_folder (before path) ≡ false) × (after path ≡ None))
