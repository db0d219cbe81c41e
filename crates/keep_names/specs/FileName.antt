-- The texts of kinds and names, and where files lie.
use Rattle.std.specs.Prelude.{⊤, ℕ, List, ◌++◌, codes, take}
use Rattle.keep_names.specs.declared.file_name.FileName.{FileName}
use Rattle.keep_names.specs.declared.file_name.Kind.{Kind}
use Rattle.keep_names.specs.declared.file_name.Kind.TheVariants.{Pack, Index, Snapshot}
use Rattle.keep_names.specs.Id.{id_text}
use Rattle.keep_names.specs.declared.id.Id.{Id}

-- the name of the file of this kind and id
abbrev pub named : Kind → Id → FileName
named kind id = record { kind = kind; id = id }

-- the word for a kind
abbrev pub kind_text : Kind → List ℕ
kind_text Pack = codes "pack"
kind_text Index = codes "index"
kind_text Snapshot = codes "snapshot"

-- each kind of file has a word
abbrev pub IsKind : Kind → Type 0
IsKind kind = ⊤

-- the kind, a space, and the id's digits
abbrev pub file_name_text : FileName → List ℕ
file_name_text name = kind_text name.kind ++ codes " " ++ id_text name.id

-- the path of a file of this kind whose id has these digits (restic's design document, "Repository Layout")
abbrev pub path_with : Kind → List ℕ → List ℕ
path_with Pack digits = codes "data/" ++ (take 2 digits ++ (codes "/" ++ digits))
path_with Index digits = codes "index/" ++ digits
path_with Snapshot digits = codes "snapshots/" ++ digits

-- where the file lies, below the repository's folder
abbrev pub path_text : FileName → List ℕ
path_text name = path_with name.kind (id_text name.id)
