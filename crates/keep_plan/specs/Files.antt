-- The files that a use of a blob where it is rests on.
use Rattle.std.specs.Prelude.{List, [], ◌∷◌}
use Rattle.keep_names.specs.FileName.{named}
use Rattle.keep_names.specs.declared.file_name.FileName.{FileName}
use Rattle.keep_names.specs.declared.file_name.Kind.TheVariants.{Pack, Index}
use Rattle.keep_names.specs.declared.id.Id.{Id}

-- the pack, and the index that lists the blob there
abbrev pub files_used : Id × Id → List FileName
files_used pair = named Pack pair.0 ∷ named Index pair.1 ∷ []
