-- The repository that a change makes.
use Rattle.std.specs.Prelude.{ℕ, List, [], ◌∷◌}
use Rattle.std.specs.FinMap as map
use Rattle.keep_names.specs.Orders.{name_cmp, id_cmp}
use Rattle.keep_repo.specs.Repository.{Repository}
use Rattle.keep_repo.specs.declared.facet.Mark as the_mark
use Rattle.keep_change.specs.NamedBytes.{NamedBytes}
use Rattle.keep_change.specs.declared.change.Change.{Change}
use Rattle.keep_change.specs.declared.change.PackMark.{PackMark}

-- the files, with these put among them
abbrev pub put_files : List NamedBytes → map.FinMap name_cmp (List ℕ) → map.FinMap name_cmp (List ℕ)
put_files [] files = files
put_files (f ∷ fs) files = put_files fs (map.insert files f.name f.bytes)

-- the files without these
abbrev pub remove_files : List NamedBytes → map.FinMap name_cmp (List ℕ) → map.FinMap name_cmp (List ℕ)
remove_files [] files = files
remove_files (f ∷ fs) files = remove_files fs (map.remove files f.name)

-- the marks, with these put among them
abbrev pub put_marks : List PackMark → map.FinMap id_cmp the_mark.Mark → map.FinMap id_cmp the_mark.Mark
put_marks [] marks = marks
put_marks (m ∷ ms) marks = put_marks ms (map.insert marks m.pack m.mark)

-- the marks without these
abbrev pub remove_marks : List PackMark → map.FinMap id_cmp the_mark.Mark → map.FinMap id_cmp the_mark.Mark
remove_marks [] marks = marks
remove_marks (m ∷ ms) marks = remove_marks ms (map.remove marks m.pack)

-- the repository with the written facets replaced, and all others as they were
abbrev pub result_of : Change → Repository → Repository
result_of c repository = record {
  files = remove_files c.drops (put_files c.adds repository.files);
  marks = remove_marks c.clears (put_marks c.sets repository.marks);
}

-- the change that takes this one back: it drops what was added and clears what was set, and the other way round
abbrev pub reverse_of : Change → Change
reverse_of c = record c { adds = c.drops; drops = c.adds; sets = c.clears; clears = c.sets }
