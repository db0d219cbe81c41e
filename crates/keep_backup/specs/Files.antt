-- What is said of files by the types of the code.
use Rattle.std.specs.Prelude.{ℕ, List, String, drop, map, string_bytes}
use Rattle.std.specs.Borrow.{Bor}
use Rattle.std.specs.Global.{Global, Vec}
use Rattle.keep_backup.specs.Paths.{FileData, Path, path_of}
use Rattle.keep_backup.specs.declared.paths.PathFile.{PathFile}

-- the names that texts are
abbrev pub names_view : Vec (Bor (List ℕ)) → Path
names_view names = map (λ name. name.now) names.items

-- what a file says
abbrev pub file_view : PathFile → FileData
file_view file = (names_view file.names, file.bytes.now)

-- a file that is given by the text of its path
abbrev pub given_view : String Global × Vec ℕ → List ℕ × List ℕ
given_view given = (string_bytes given.0, given.1.items)

-- the files as they are seen from a folder so many names below the root, through which their paths go
abbrev pub seen : ℕ → List PathFile → List FileData
seen depth files = map (λ file. (drop depth (names_view file.names), file.bytes.now)) files

-- their paths as they are seen from there
abbrev pub paths_seen : ℕ → List PathFile → List Path
paths_seen depth files = map path_of (seen depth files)
