-- The files of a repository, by name.
use Rattle.std.specs.Prelude.{List, Option, option_map}
use Rattle.std.specs.FinMap as finite
use Rattle.std.specs.List.{filter_map}
use Rattle.keep_names.specs.FileName.{named}
use Rattle.keep_names.specs.declared.file_name.FileName.{FileName}
use Rattle.keep_names.specs.declared.file_name.Kind.{Kind}
use Rattle.keep_names.specs.declared.id.Id.{Id}
use Rattle.keep_repo.specs.Repository.{Repository}
use Rattle.keep_change.specs.NamedBytes.{NamedBytes}

-- the file of this name, if it is there
abbrev pub file_there : Repository → FileName → Option NamedBytes
file_there r name = option_map (λ bytes. record { name = name; bytes = bytes }) (finite.get r.files name)

-- those of the files of this kind that are there
unfoldable pub files_there : Repository → Kind → List Id → List NamedBytes
files_there r kind ids = filter_map (λ id. file_there r (named kind id)) ids
