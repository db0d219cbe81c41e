-- Which facets a change writes, and which it touches.
use Rattle.std.specs.Prelude.{Bool, List, ◌++◌, map, Option, None}
use Rattle.std.specs.List.{list_any}
use Rattle.std.specs.Option.{option_map_or}
use Rattle.keep_repo.specs.Facet.{Content, facet_eq}
use Rattle.keep_repo.specs.declared.facet.Facet.{Facet}
use Rattle.keep_change.specs.declared.change.Change.{Change}
use Rattle.keep_change.specs.Change.{written, asked, record_of}

-- the facets that the change writes
abbrev pub written_facets : Change → List Facet
written_facets c = map (λ w. w.facet) (written c)

-- the facets of all eight lists
abbrev pub facets : Change → List Facet
facets c = written_facets c ++ map (λ a. a.facet) (asked c)

-- whether the change writes the facet
abbrev pub writes : Change → Facet → Bool
writes c facet = list_any (facet_eq facet) (written_facets c)

-- whether the facet stands in one of the change's lists
abbrev pub touches : Change → Facet → Bool
touches c facet = list_any (facet_eq facet) (facets c)

-- whether the change touches a facet that the other one writes
abbrev pub leans_on : Change → Change → Bool
leans_on c other = list_any (touches c) (written_facets other)

-- what the change asks the facet to hold before it, if it writes the facet
abbrev pub before_of : Change → Facet → Option Content
before_of c facet = option_map_or (λ w. w.before) (record_of (written c) facet) None

-- what the facet holds after it, if it writes the facet
abbrev pub after_of : Change → Facet → Option Content
after_of c facet = option_map_or (λ w. w.after) (record_of (written c) facet) None
