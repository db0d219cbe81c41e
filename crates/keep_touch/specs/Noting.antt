-- How the notes of a change are made, list by list, and taken back.
use Rattle.std.specs.Prelude.{◌≡◌, ℕ, List, ◌++◌, count_by, map, replicate}
use Rattle.keep_repo.specs.Facet.{facet_eq}
use Rattle.keep_repo.specs.declared.facet.Facet.{Facet}
use Rattle.keep_change.specs.Change.{asked}
use Rattle.keep_change.specs.declared.change.Change.{Change}
use Rattle.keep_touch.specs.Followed.{without_last}
use Rattle.keep_touch.specs.Mentions.{mentions}
use Rattle.keep_touch.specs.declared.mention.Mention.{Mention}
use Rattle.keep_touch.specs.declared.touch.Touch.{Touch}

-- the facets that the change only looks at
abbrev pub asked_facets : Change → List Facet
asked_facets c = map (λ a. a.facet) (asked c)

-- how often the facet is among these
abbrev pub times : Facet → List Facet → ℕ
times facet facets = count_by (facet_eq facet) facets

-- the mention is put at the end of the list of each of these facets
abbrev pub Notes : Mention → List Facet → Touch → Touch → Type 0
Notes mention facets old new =
    (facet : Facet) → mentions new facet ≡ mentions old facet ++ replicate (times facet facets) mention

-- the last mention is taken from the list of each of these facets
abbrev pub Forgets : List Facet → Touch → Touch → Type 0
Forgets facets old new = (facet : Facet) → mentions new facet ≡ without_last (times facet facets) (mentions old facet)
