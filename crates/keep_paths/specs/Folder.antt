-- The folders in which keys lie.
use Rattle.std.specs.Prelude.{◌≡◌, ℕ, ◌⊎◌, List, ◌++◌, codes, length}
use Rattle.std.specs.List.{AllPass}
use Rattle.keep_names.specs.Id.{is_lower_hex_digit}
use Rattle.keep_names.specs.declared.file_name.FileName.{FileName}
use Rattle.keep_shelf.specs.declared.key.Key.{Key}
use Rattle.keep_paths.specs.KeyPath.{IsInTrash, IsKey, key_path, trash_path}

-- the path leads into the folder, or into one below it
abbrev pub LiesIn : List ℕ → List ℕ → Type 0
LiesIn path folder = (rest : List ℕ) × (path ≡ folder ++ (codes "/" ++ rest))

-- one of the five that lie at the root
abbrev pub IsTopFolder : List ℕ → Type 0
IsTopFolder name =
    (name ≡ codes "data") ⊎ ((name ≡ codes "index") ⊎ ((name ≡ codes "snapshots") ⊎ ((name ≡ codes "trash") ⊎ (name ≡ codes "journal"))))

-- two lower case hex digits
abbrev pub IsPackFolder : List ℕ → Type 0
IsPackFolder name = (length name ≡ 2) × AllPass is_lower_hex_digit name

-- a key lies in the folder
abbrev pub HoldsKeys : List ℕ → Type 0
HoldsKeys folder = (key : Key) × IsKey key × LiesIn (key_path key) folder

-- a file in the trash lies in the folder there
abbrev pub HoldsTrash : List ℕ → Type 0
HoldsTrash folder = (p : ℕ × FileName) × IsInTrash p × LiesIn (trash_path p) folder
