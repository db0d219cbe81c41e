-- A walk through the places of keys in a tree.
use Rattle.std.specs.Prelude.{◌≡◌, ◌↔◌, ℕ, ◌⊎◌, false, IsTrue, Some, List, [], ◌∷◌, ◌++◌, is_some, string_bytes}
use Rattle.std.specs.FinMap as map
use Rattle.std.specs.declared.string.String.{String}
use Rattle.keep_paths.specs.Folder.{HoldsKeys, LiesIn}
use Rattle.keep_paths.specs.KeyPath.{IsKey, key_path}
use Rattle.keep_shelf.specs.Shelved.{Content}
use Rattle.keep_shelf.specs.declared.key.Key.{Key}
use Rattle.keep_files.specs.Content.{file_in}
use Rattle.keep_files.specs.Path.{IsHeldIn, IsListed}
use Rattle.keep_files.specs.Stands.{Stands, is_file, is_folder}

-- a key's file lies at the path
abbrev pub IsKeyPath : List ℕ → Type 0
IsKeyPath path = (key : Key) × IsKey key × (key_path key ≡ path)

-- a key's file lies there, or a folder of such files
abbrev pub IsPlace : List ℕ → Type 0
IsPlace path = IsKeyPath path ⊎ HoldsKeys path

-- no folder stands in the place of a key's file, and no file in that of a folder
pub record IsOrderly (stands : Stands) : Type 0 where
  pub file : (path : List ℕ) → IsKeyPath path → is_folder (stands path) ≡ false
  pub folder : (path : List ℕ) → HoldsKeys path → is_file (stands path) ≡ false

-- the first path is the second one, or leads there
abbrev pub Leads : List ℕ → List ℕ → Type 0
Leads path end = (path ≡ end) ⊎ LiesIn end path

-- one of the paths that are still to be looked at leads there
abbrev pub IsAwaited : {A : Type 0} → List (String A) → List ℕ → Type 0
IsAwaited [] end = ⊥
IsAwaited (path ∷ paths) end = Leads (string_bytes path) end ⊎ IsAwaited paths end

-- what stands at the place is as it has to be, and the bytes of a key's file are noted
pub record IsNoted (stands : Stands) (content : Content) (path : List ℕ) : Type 0 where
  pub file : IsKeyPath path → is_folder (stands path) ≡ false
  pub folder : HoldsKeys path → is_file (stands path) ≡ false
  pub bytes : (key : Key) → IsKey key → key_path key ≡ path → map.get content key ≡ file_in (stands path)

-- what was noted so far is so, and what is in a place is noted or awaited
pub record IsOnTheWay {A : Type 0} (stands : Stands) (content : Content) (paths : List (String A)) : Type 0 where
  pub sound : (key : Key) (bytes : List ℕ) → IsKey key → map.get content key ≡ Some bytes → file_in (stands (key_path key)) ≡ Some bytes
  pub complete : (path : List ℕ) → IsPlace path → IsTrue (is_some (stands path)) → IsNoted stands content path ⊎ IsAwaited paths path

-- the paths are those of all that lies right in the folder
abbrev pub AreIn : {A : Type 0} → Stands → List ℕ → List (String A) → Type 0
AreIn stands folder paths = (path : List ℕ) → IsListed paths path ↔ (IsTrue (is_some (stands path)) × IsHeldIn path folder)

-- a folder was looked at: one of keys' files, of which the paths in it are awaited, or another one
abbrev pub IsOpened : {A : Type 0} → Stands → List ℕ → List (String A) → List (String A) → Type 0
IsOpened {A} stands folder before after =
    ((IsKeyPath folder → ⊥) × ((inner : List (String A)) × AreIn stands folder inner × (after ≡ before ++ inner)))
    ⊎ ((IsPlace folder → ⊥) × (after ≡ before))

-- a file was looked at: a key's, of which the bytes are noted, or another one
abbrev pub IsRead : List ℕ → List ℕ → Content → Content → Type 0
IsRead path bytes before after =
    ((HoldsKeys path → ⊥) × ((key : Key) × IsKey key × (key_path key ≡ path) × (after ≡ map.insert before key bytes)))
    ⊎ ((IsPlace path → ⊥) × (after ≡ before))
