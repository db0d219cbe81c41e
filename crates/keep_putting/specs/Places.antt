-- Where what a snapshot has is put.
use Rattle.std.specs.Prelude.{◌≡◌, ℕ, IsTrue, None, Some, List, [], ◌++◌, codes, string_bytes}
use Rattle.std.specs.Map.{update}
use Rattle.std.specs.Str.{bytes_eq}
use Rattle.std.specs.declared.alloc.Global.{Global}
use Rattle.std.specs.declared.string.String.{String}
use Rattle.keep_files.specs.Path.{LiesRightIn}
use Rattle.keep_tree.specs.Names.{is_name}
use Rattle.keep_putting.specs.Folders.{Folders}
use Rattle.keep_putting.specs.declared.wanted.Wanted.{Wanted}

-- the places of the folders, with this place at the path
abbrev pub placed : Folders → List ℕ → List ℕ → Folders
placed folders path place = update bytes_eq folders path (Some place)

-- the root is there, and no folder
abbrev pub root_alone : Folders
root_alone = placed (λ path. None) [] []

-- its name can be said, and a file can have it
abbrev pub HasName : Wanted → Type 0
HasName wanted = (name : String Global) × (wanted.name ≡ Some name) × IsTrue (is_name (string_bytes name))

-- its place has its name behind the place of the folder that holds it in the snapshot
pub record IsPlaceOf (folders : Folders) (wanted : Wanted) (place : List ℕ) : Type 0 where
  pub home : List ℕ
  pub folder : List ℕ
  pub name : String Global
  pub held : LiesRightIn (string_bytes wanted.path) home
  pub made : folders home ≡ Some folder
  pub said : wanted.name ≡ Some name
  pub named : IsTrue (is_name (string_bytes name))
  pub leads : place ≡ folder ++ (codes "/" ++ string_bytes name)
