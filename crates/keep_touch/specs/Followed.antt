-- Which changes are followed: a later one touches a facet that they touch.
use Rattle.std.specs.Prelude.{◌≡◌, ℕ, ◌-◌, ◌==◌, nat_eq, Bool, true, false, ◌||◌, List, [], All, length, slice_get, take}
use Rattle.std.specs.Global.{Vec}
use Rattle.std.specs.Option.{option_map_or}
use Rattle.indexmap.specs.IndexMap.{IndexMap, get}
use Rattle.indexmap.specs.IndexSet.{IndexSet, contains}
use Rattle.keep_repo.specs.contracts.facet.FacetPartialEq.TheImpl as the_facet_eq
use Rattle.keep_repo.specs.declared.facet.Facet.{Facet}
use Rattle.keep_touch.specs.declared.mention.Mention.{Mention}

-- the list without its last n
abbrev pub without_last : {X : Type 0} → ℕ → List X → List X
without_last n xs = take (length xs - n) xs

-- the list of the facet, empty where there is none
abbrev pub list_of : {S : Type 0} → IndexMap Facet (Vec Mention) S → Facet → List Mention
list_of lists facet = option_map_or (λ list. list.items) (get (the_facet_eq.ghosts).eq lists facet) []

-- in each list the mentions but for the last are of followed changes
abbrev pub AreFollowed : {S T : Type 0} → IndexMap Facet (Vec Mention) S → IndexSet ℕ T → Type 0
AreFollowed lists followed =
    (facet : Facet) → All (λ m. contains nat_eq followed m.number ≡ true) (without_last 1 (list_of lists facet))

-- whether the last of these mentions is of change n
abbrev pub is_of_last : List Mention → ℕ → Bool
is_of_last ms n = option_map_or (λ m. m.number == n) (slice_get ms (length ms - 1)) false

-- the change of the last of these mentions, if there is one, is followed too
abbrev pub LastIsFollowed : {T : Type 0} → List Mention → IndexSet ℕ T → IndexSet ℕ T → Type 0
LastIsFollowed ms old new = (n : ℕ) → contains nat_eq new n ≡ (is_of_last ms n || contains nat_eq old n)

-- what is followed in the old one is so in the new one
abbrev pub KeepsFollowed : {T : Type 0} → IndexSet ℕ T → IndexSet ℕ T → Type 0
KeepsFollowed old new = (n : ℕ) → contains nat_eq old n ≡ true → contains nat_eq new n ≡ true
