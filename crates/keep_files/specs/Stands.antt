-- What stands at the paths of a tree.
use Rattle.std.specs.Prelude.{◌≡◌, ℕ, Bool, true, false, Option, None, Some, List, IsTrue, is_some}
use Rattle.std.specs.Map.{update}
use Rattle.std.specs.Str.{bytes_eq}
use Rattle.keep_paths.specs.Folder.{LiesIn}
use Rattle.keep_files.specs.Path.{LiesRightIn}
use Rattle.keep_files.specs.declared.node.Node.{Node}
use Rattle.keep_files.specs.declared.node.Node.TheVariants.{Folder, File}

-- what stands at each path
abbrev pub Stands : Type 0
Stands = List ℕ → Option Node

abbrev pub is_folder : Option Node → Bool
is_folder (Some Folder) = true
is_folder _ = false

abbrev pub is_file : Option Node → Bool
is_file (Some (File bytes)) = true
is_file _ = false

-- what stands at each path, with this put at the one
abbrev pub put_at : Stands → List ℕ → Option Node → Stands
put_at stands path node = update bytes_eq stands path node

-- what stood at the first path stands at the second one
abbrev pub moved : Stands → List ℕ → List ℕ → Stands
moved stands from to = put_at (put_at stands to (stands from)) from None

-- the folder that the path leads into stands, or the path lies at the root
abbrev pub HasHome : Stands → List ℕ → Type 0
HasHome stands path = (folder : List ℕ) → LiesRightIn path folder → stands folder ≡ Some Folder

-- each folder on the way to the path stands
abbrev pub HasFolders : Stands → List ℕ → Type 0
HasFolders stands path = (folder : List ℕ) → LiesIn path folder → stands folder ≡ Some Folder

-- what stands lies in folders
abbrev pub IsClosed : Stands → Type 0
IsClosed stands = (path : List ℕ) → IsTrue (is_some (stands path)) → HasFolders stands path
