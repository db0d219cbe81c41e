-- A repository of given marks.
use Rattle.std.specs.Prelude.{ℕ, List}
use Rattle.std.specs.FinMap.{FinMap}
use Rattle.keep_names.specs.Orders.{id_cmp, name_cmp}
use Rattle.keep_repo.specs.Repository.{Repository}
use Rattle.keep_repo.specs.declared.facet.Mark.{Mark}

abbrev pub with_marks : FinMap name_cmp (List ℕ) → FinMap id_cmp Mark → Repository
with_marks files marks = record { files = files; marks = marks }
