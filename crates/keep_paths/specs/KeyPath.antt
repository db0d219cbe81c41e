-- Where what is under a key lies, below the folder of a shelf.
use Rattle.std.specs.Prelude.{◌≡◌, ℕ, ◌≤◌, List, ◌++◌, codes, length, take}
use Rattle.std.specs.Fmt.{decimal}
use Rattle.keep_names.specs.Number.{IsNumber}
use Rattle.keep_names.specs.FileName.{kind_text, path_text}
use Rattle.keep_names.specs.Id.{IsDigest, id_text}
use Rattle.keep_names.specs.declared.file_name.FileName.{FileName}
use Rattle.keep_names.specs.declared.id.Id.{Id}
use Rattle.keep_shelf.specs.declared.key.Key.{Key}
use Rattle.keep_shelf.specs.declared.key.Key.TheVariants.{Live, Trash, Entry}

-- KIND/ID, below the folder of a change's trash (this repository's own)
abbrev pub name_path : FileName → List ℕ
name_path name = kind_text name.kind ++ (codes "/" ++ id_text name.id)

-- N/KIND/ID, below the trash (this repository's own)
abbrev pub trash_path : ℕ × FileName → List ℕ
trash_path p = decimal p.0 ++ (codes "/" ++ name_path p.1)

-- A live file lies where restic has it (its design document, "Repository Layout"): data/XX/ID, XX being the first two
-- digits of ID, index/ID or snapshots/ID. The trash is trash/N/KIND/ID, and an entry journal/K (both this repository's own).
abbrev pub key_path : Key → List ℕ
key_path (Live name) = path_text name
key_path (Trash n name) = codes "trash/" ++ trash_path (n, name)
key_path (Entry k) = codes "journal/" ++ decimal k

-- XX/ID, below the folder of the packs, as restic has it
abbrev pub pack_path : Id → List ℕ
pack_path id = take 2 (id_text id) ++ (codes "/" ++ id_text id)

-- the first two of these digits, and no fewer
abbrev pub IsFrontOf : List ℕ → List ℕ → Type 0
IsFrontOf front digits = (2 ≤ length digits) × (take 2 digits ≡ front)

-- an id of 32 bytes, as each name has
abbrev pub IsName : FileName → Type 0
IsName name = IsDigest name.id

-- the number and the name of a file in the trash
abbrev pub IsInTrash : ℕ × FileName → Type 0
IsInTrash p = IsNumber p.0 × IsName p.1

-- its numbers have 64 bits and its id 32 bytes, as those of each key
abbrev pub IsKey : Key → Type 0
IsKey (Live name) = IsName name
IsKey (Trash n name) = IsInTrash (n, name)
IsKey (Entry k) = IsNumber k
