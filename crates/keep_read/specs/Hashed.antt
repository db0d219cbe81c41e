-- What is hashed of a file.
use Rattle.std.specs.Prelude.{List, ℕ, [], unwrap_or}
use Rattle.std.specs.FinMap as finite
use Rattle.keep_names.specs.declared.file_name.FileName.{FileName}
use Rattle.keep_repo.specs.Repository.{Repository}

-- the bytes of the file, none where it isn't there
abbrev pub bytes_of : Repository → FileName → List ℕ
bytes_of r name = unwrap_or (finite.get r.files name) []
