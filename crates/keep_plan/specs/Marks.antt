-- Marks in a map of the code.
use Rattle.std.specs.Prelude.{◌≡◌, List, None, if◌then◌else◌}
use Rattle.std.specs.BTreeMap.{BTreeMap}
use Rattle.std.specs.BTreeMap as tree
use Rattle.std.specs.FinMap as finite
use Rattle.keep_change.specs.Filling.{has_pack}
use Rattle.keep_names.specs.Orders.{id_cmp}
use Rattle.keep_names.specs.declared.id.Id.{Id}
use Rattle.keep_repo.specs.Repository.{Repository}
use Rattle.keep_repo.specs.declared.facet.Mark.{Mark}

-- just the marks of the repository on these packs
abbrev pub AreMarks : Repository → List Id → BTreeMap Id Mark → Type 0
AreMarks r packs marks =
    (pack : Id) → tree.get id_cmp marks pack ≡ (if has_pack packs pack then finite.get r.marks pack else None)
