-- Changes that put a new index in the place of others.
use Rattle.std.specs.Prelude.{not, List, [], ◌∷◌, filter}
use Rattle.keep_names.specs.FileName.{named}
use Rattle.keep_names.specs.declared.file_name.FileName.{FileName}
use Rattle.keep_names.specs.declared.file_name.Kind.TheVariants.{Index}
use Rattle.keep_names.specs.declared.id.Id.{Id}
use Rattle.keep_repo.specs.Repository.{Repository}
use Rattle.keep_index.specs.Index.{PackData}
use Rattle.keep_index.specs.Writing.{index_text}
use Rattle.keep_change.specs.Change.{no_change}
use Rattle.keep_change.specs.Filling.{has_name}
use Rattle.keep_change.specs.Lists.{file_names}
use Rattle.keep_change.specs.NamedBytes.{NamedBytes, file_of}
use Rattle.keep_change.specs.declared.change.Change.{Change}
use Rattle.keep_change.specs.declared.change.PackMark.{PackMark}
use Rattle.keep_plan.specs.Storing.{stored_built}

-- the file of the index of these packs, if there are any
unfoldable pub index_files : List PackData → List NamedBytes
index_files [] = []
index_files (pack ∷ packs) = file_of Index (index_text (pack ∷ packs)) ∷ []

-- those of these indexes that aren't among the new files
abbrev pub other_indexes : List NamedBytes → List Id → List Id
other_indexes built ids = filter (λ id. not (has_name (file_names built) (named Index id))) ids

-- New files are added, or were there and are to be present; these files are dropped, these marks cleared, and these
-- files are to be absent.
abbrev pub reindexing : Repository → List NamedBytes → List NamedBytes → List PackMark → List FileName → Change
reindexing r built drops clears absent = record no_change {
  adds = (stored_built r [] built).adds;
  drops = drops;
  clears = clears;
  present = (stored_built r [] built).present;
  absent = absent;
}
