-- The marks of a repository as a list.
use Rattle.std.specs.Prelude.{List, map}
use Rattle.std.specs.FinMap as finite
use Rattle.keep_names.specs.declared.id.Id.{Id}
use Rattle.keep_repo.specs.Repository.{Repository}
use Rattle.keep_repo.specs.declared.facet.Mark as the_mark
use Rattle.keep_change.specs.declared.change.PackMark.{PackMark}

-- a pack's entry among the marks
abbrev pub pack_mark : Id × the_mark.Mark → PackMark
pack_mark entry = record { pack = entry.0; mark = entry.1 }

-- the marks of the repository, by pack
abbrev pub marks_of : Repository → List PackMark
marks_of repository = map pack_mark (finite.entries repository.marks)
