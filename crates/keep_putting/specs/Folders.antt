-- Where the folders of a snapshot are put.
use Rattle.std.specs.Prelude.{◌≡◌, ℕ, Option, Some, List}
use Rattle.keep_targets.specs.Call.{Call}
use Rattle.keep_putting.specs.Careful.{IsOwnFolder}

-- by the path of a folder in a snapshot, its place below the root, where it was made
abbrev pub Folders : Type 0
Folders = List ℕ → Option (List ℕ)

-- each of them is the root, or was made
abbrev pub AreMade : Folders → List Call → Type 0
AreMade folders calls = (path place : List ℕ) → folders path ≡ Some place → IsOwnFolder calls place
