-- The first and the last of some changes that touch or write a facet.
use Rattle.std.specs.Prelude.{◌≡◌, ℕ, Bool, true, List, Option, Some, None, is_some, min, reverse}
use Rattle.std.specs.List.{find, list_any}
use Rattle.std.specs.Option.{option_map, option_map_or}
use Rattle.keep_repo.specs.declared.facet.Facet.{Facet}
use Rattle.keep_change.specs.Change.{Holding}
use Rattle.keep_change.specs.Fold.{Numbered}
use Rattle.keep_change.specs.Touch.{before_of, touches, writes}
use Rattle.keep_change.specs.declared.change.Change.{Change}
use Rattle.keep_journal.specs.History.{change_of}
use Rattle.keep_journal.specs.Journal.{Journal}
use Rattle.keep_journal.specs.Kept.{kept_change, later}

-- whether change n is in force and not final
abbrev pub in_force : Journal → ℕ → Bool
in_force j n = is_some (kept_change j n)

-- the number of the first of these changes that touches the facet
abbrev pub first_toucher : Facet → List Numbered → Option ℕ
first_toucher facet ns = option_map (λ n. n.number) (find (λ n. touches n.change facet) ns)

-- no later change in force touches a facet that change n touches
abbrev pub StandsAlone : Journal → ℕ → Type 0
StandsAlone j n =
    (c : Change) (facet : Facet) → change_of j n ≡ Some c → touches c facet ≡ true
    → first_toucher facet (later j n) ≡ None

-- the number of the first that touches one of the facets
abbrev pub first_among : List Facet → List Numbered → Option ℕ
first_among facets ns = option_map (λ n. n.number) (find (λ n. list_any (touches n.change) facets) ns)

-- the number of the first that writes the facet
abbrev pub first_writer : Facet → List Numbered → Option ℕ
first_writer facet ns = option_map (λ n. n.number) (find (λ n. writes n.change facet) ns)

-- the number of the last that writes it
abbrev pub last_writer : Facet → List Numbered → Option ℕ
last_writer facet ns = first_writer facet (reverse ns)

-- what the facet held before its first writer, where there is one: what that asked for; and else what it holds in the end
abbrev pub held_before : Journal → Option ℕ → Holding → Holding
held_before j None end facet = end facet
held_before j (Some n) end facet = option_map_or (λ c. before_of c facet) (kept_change j n) (end facet)

-- the lesser number, where there are two
abbrev pub sooner : Option ℕ → Option ℕ → Option ℕ
sooner None other = other
sooner (Some a) None = Some a
sooner (Some a) (Some b) = Some (min a b)
