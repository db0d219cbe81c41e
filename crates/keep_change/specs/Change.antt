-- What a change asks of each facet, and what it makes of it.
use Rattle.std.specs.Prelude.{Bool, true, false, ◌&&◌, List, [], ◌++◌, map, Option, Some, None, is_some, is_none, if◌then◌else◌}
use Rattle.std.specs.List.{list_all, find}
use Rattle.std.specs.Str.{bytes_eq}
use Rattle.std.specs.Option.{option_map_or}
use Rattle.std.specs.Ordering.{int_eq}
use Rattle.keep_names.specs.declared.file_name.FileName.{FileName}
use Rattle.keep_names.specs.declared.id.Id.{Id}
use Rattle.keep_repo.specs.Facet.{Content, Stored, Marked, facet_eq}
use Rattle.keep_repo.specs.declared.facet.Facet.{Facet}
use Rattle.keep_repo.specs.declared.facet.Facet.TheVariants.{File, Mark}
use Rattle.keep_change.specs.NamedBytes.{NamedBytes}
use Rattle.keep_change.specs.declared.change.Change.{Change}
use Rattle.keep_change.specs.declared.change.PackMark.{PackMark}

-- what each facet holds, none where it is empty
abbrev pub Holding : Type 0
Holding = Facet → Option Content

-- a facet that a change writes: what it has to hold before, and what it holds after
pub record Written : Type 0 where
  pub facet : Facet
  pub before : Option Content
  pub after : Option Content

-- an added file isn't there before
abbrev pub added : NamedBytes → Written
added file = record { facet = File file.name; before = None; after = Some (Stored file.bytes) }

-- a set mark isn't there before
abbrev pub set : PackMark → Written
set m = record { facet = Mark m.pack; before = None; after = Some (Marked m.mark) }

-- what is written, the other way round: what it left has to be there, and what had to be there is left
abbrev pub reversed : Written → Written
reversed w = record { facet = w.facet; before = w.after; after = w.before }

-- a dropped file is there before, with just its bytes
abbrev pub dropped : NamedBytes → Written
dropped file = reversed (added file)

-- a cleared mark is there before, with just its moment
abbrev pub cleared : PackMark → Written
cleared m = reversed (set m)

-- what the change writes
abbrev pub written : Change → List Written
written c = map added c.adds ++ (map dropped c.drops ++ (map set c.sets ++ map cleared c.clears))

-- a facet that a change only looks at: whether it has to be filled
pub record Asked : Type 0 where
  pub facet : Facet
  pub filled : Bool

abbrev pub file_asked : Bool → FileName → Asked
file_asked filled name = record { facet = File name; filled = filled }

abbrev pub mark_asked : Bool → Id → Asked
mark_asked filled pack = record { facet = Mark pack; filled = filled }

-- what the change only looks at
abbrev pub asked : Change → List Asked
asked c =
    map (file_asked true) c.present
    ++ (map (file_asked false) c.absent
    ++ (map (mark_asked true) c.marked ++ map (mark_asked false) c.unmarked))

-- whether the two hold the same: nothing, the same bytes, or marks of the same moment
abbrev pub holds_same : Option Content → Option Content → Bool
holds_same None None = true
holds_same (Some (Stored a)) (Some (Stored b)) = bytes_eq a b
holds_same (Some (Marked a)) (Some (Marked b)) = int_eq a.moment b.moment
holds_same _ _ = false

-- whether the facet holds just what it has to before it is written
abbrev pub is_as_written : Holding → Written → Bool
is_as_written holding w = holds_same (holding w.facet) w.before

-- whether the facet is filled or empty, as it has to be
abbrev pub is_as_asked : Holding → Asked → Bool
is_as_asked holding a = if a.filled then is_some (holding a.facet) else is_none (holding a.facet)

-- whether the written facets are as the change asks
abbrev pub is_ready : Holding → Change → Bool
is_ready holding c = list_all (is_as_written holding) (written c)

-- whether all facets are as the change asks
abbrev pub is_met : Holding → Change → Bool
is_met holding c = is_ready holding c && list_all (is_as_asked holding) (asked c)

-- what these write to the facet, if they do
abbrev pub record_of : List Written → Facet → Option Written
record_of ws facet = find (λ w. facet_eq w.facet facet) ws

-- what each facet holds once these are written
abbrev pub replaced : List Written → Holding → Holding
replaced ws holding facet = option_map_or (λ w. w.after) (record_of ws facet) (holding facet)

-- the change that asks for nothing and writes nothing
abbrev pub no_change : Change
no_change = record {
  adds = [];
  drops = [];
  sets = [];
  clears = [];
  present = [];
  absent = [];
  marked = [];
  unmarked = [];
  strict = false;
}
