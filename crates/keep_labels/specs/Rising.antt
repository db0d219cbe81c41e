-- Names that rise strictly.
use Rattle.std.specs.Prelude.{Bool, true, ◌&&◌, List, [], ◌∷◌, Option, None, Some}
use Rattle.std.specs.Ordering.{is_lt}
use Rattle.keep_names.specs.Orders.{id_cmp}
use Rattle.keep_snap.specs.Facts.{FactsData}

-- whether its name is above the last one's, if there is one
abbrev pub is_above : Option FactsData → FactsData → Bool
is_above None s = true
is_above (Some last) s = is_lt (id_cmp last.name s.name)

-- whether each name is above the one before it, the first above the last one's
abbrev pub names_rise : Option FactsData → List FactsData → Bool
names_rise last [] = true
names_rise last (s ∷ all) = is_above last s && names_rise (Some s) all
