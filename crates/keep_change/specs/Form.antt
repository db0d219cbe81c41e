-- Which changes are well formed, and the least facet that isn't as a change asks.
use Rattle.std.specs.Prelude.{◌≡◌, ◌≢◌, ◌≤◌, ◌==◌, Bool, not, List, [], ◌∷◌, ◌++◌, map, filter, count_by, All, Option, Some, None}
use Rattle.std.specs.List.Sorted.{IsStrictlySortedBy}
use Rattle.std.specs.Ordering.{ord_min}
use Rattle.keep_names.specs.Sha256.{sha256}
use Rattle.keep_repo.specs.Facet.{facet_eq, facet_cmp}
use Rattle.keep_repo.specs.declared.facet.Facet.{Facet}
use Rattle.keep_repo.specs.declared.facet.Facet.TheVariants.{File, Mark}
use Rattle.keep_change.specs.NamedBytes.{NamedBytes}
use Rattle.keep_change.specs.declared.change.Change.{Change}
use Rattle.keep_change.specs.Change.{Holding, written, asked, is_as_written, is_as_asked}
use Rattle.keep_change.specs.Touch.{facets}

-- each facet is above those before it
abbrev pub IsInOrder : List Facet → Type 0
IsInOrder fs = IsStrictlySortedBy facet_cmp fs

-- each of the eight lists is in order
pub record ListsInOrder (c : Change) : Type 0 where
  pub adds : IsInOrder (map (λ f. File f.name) c.adds)
  pub drops : IsInOrder (map (λ f. File f.name) c.drops)
  pub sets : IsInOrder (map (λ m. Mark m.pack) c.sets)
  pub clears : IsInOrder (map (λ m. Mark m.pack) c.clears)
  pub present : IsInOrder (map File c.present)
  pub absent : IsInOrder (map File c.absent)
  pub marked : IsInOrder (map Mark c.marked)
  pub unmarked : IsInOrder (map Mark c.unmarked)

-- whether the facet stands once over all lists
abbrev pub is_once : Change → Facet → Bool
is_once c facet = count_by (facet_eq facet) (facets c) == 1

-- no facet stands twice over all lists
abbrev pub HasNoFacetTwice : Change → Type 0
HasNoFacetTwice c = (q : Facet) → count_by (facet_eq q) (facets c) ≤ 1

-- each file is named by the SHA-256 of its bytes
abbrev pub AreNamedByBytes : List NamedBytes → Type 0
AreNamedByBytes files = All (λ f. f.name.id.0 ≡ sha256 f.bytes) files

-- the change can be committed to some repository: its lists are in order, no facet stands twice, the adds are named by their bytes, and something is written
pub record IsWellFormed (c : Change) : Type 0 where
  pub in_order : ListsInOrder c
  pub once : HasNoFacetTwice c
  pub named : AreNamedByBytes c.adds
  pub writes : written c ≢ []

-- the lesser one, where both are there
abbrev pub lesser : Option Facet → Option Facet → Option Facet
lesser None b = b
lesser (Some a) None = Some a
lesser (Some a) (Some b) = Some (ord_min facet_cmp a b)

-- the least of these facets, if there are any
abbrev pub least : List Facet → Option Facet
least [] = None
least (f ∷ fs) = lesser (Some f) (least fs)

-- the least facet of those that pass the test
abbrev pub least_where : {X : Type 0} → (X → Facet) → (X → Bool) → List X → Option Facet
least_where facet_of test xs = least (map facet_of (filter test xs))

-- the facets that aren't as the change asks
abbrev pub unmet_facets : Holding → Change → List Facet
unmet_facets holding c =
    map (λ w. w.facet) (filter (λ w. not (is_as_written holding w)) (written c))
    ++ map (λ a. a.facet) (filter (λ a. not (is_as_asked holding a)) (asked c))

-- the least facet that isn't as the change asks, file facets first
abbrev pub least_unmet : Holding → Change → Option Facet
least_unmet holding c = least (unmet_facets holding c)
