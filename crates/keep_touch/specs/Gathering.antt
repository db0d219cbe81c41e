-- What is found of the changes that have to be taken back, while they are looked for.
use Rattle.std.specs.Prelude.{◌≡◌, ℕ, ◌≤◌, ◌==◌, nat_lt, Bool, true, false, ◌&&◌, not, List, ◌⊎◌}
use Rattle.std.specs.BTreeSet as tree
use Rattle.std.specs.HashSet as bag
use Rattle.std.specs.List.{AllByRecursion, list_any}
use Rattle.std.specs.Option.{option_map_or}
use Rattle.std.specs.Ordering.{nat_cmp}
use Rattle.keep_repo.specs.contracts.facet.FacetPartialEq.TheImpl as the_facet_eq
use Rattle.keep_repo.specs.declared.facet.Facet.{Facet}
use Rattle.keep_change.specs.Touch.{touches}
use Rattle.keep_journal.specs.Journal.{Journal}
use Rattle.keep_journal.specs.Kept.{kept_change}
use Rattle.keep_touch.specs.Taken.{LeansOn}
use Rattle.keep_touch.specs.declared.gathered.Gathered.{Gathered}

-- whether change m was found, and is still to be looked at
abbrev pub is_pending : Gathered → ℕ → Bool
is_pending found m = tree.contains nat_cmp found.pending m

-- whether the facet's mentions were gone through
abbrev pub is_walked : Gathered → Facet → Bool
is_walked found facet = bag.contains (the_facet_eq.ghosts).eq found.walked facet

-- whether change m is in force and not final, and touches the facet
abbrev pub touches_kept : Journal → Facet → ℕ → Bool
touches_kept j facet m = option_map_or (λ c. touches c facet) (kept_change j m) false

-- whether change m comes after change n, is in force and not final, and touches the facet
abbrev pub touches_after : Journal → ℕ → Facet → ℕ → Bool
touches_after j n facet m = nat_lt n m && touches_kept j facet m

-- just change n is found yet
pub record Begins (n : ℕ) (found : Gathered) : Type 0 where
  pub pending : (m : ℕ) → is_pending found m ≡ (n == m)
  pub walked : (facet : Facet) → is_walked found facet ≡ false

-- change m, the least of those that are pending, is looked at now
pub record Takes (m : ℕ) (old new : Gathered) : Type 0 where
  pub was : is_pending old m ≡ true
  pub least : (q : ℕ) → is_pending old q ≡ true → m ≤ q
  pub others : (q : ℕ) → is_pending new q ≡ (is_pending old q && not (m == q))
  pub walked : (facet : Facet) → is_walked new facet ≡ is_walked old facet

-- no change is pending
pub record NothingPends (found : Gathered) : Type 0 where
  pub none : (m : ℕ) → is_pending found m ≡ false

-- all changes after n that touch a facet which was walked are pending
abbrev pub Covers : Journal → ℕ → Gathered → Type 0
Covers j n found = (facet : Facet) (m : ℕ) → is_walked found facet ≡ true → touches_after j n facet m ≡ true → is_pending found m ≡ true

-- these facets are walked for change n, and of its later changes those that touch one of them are found
pub record Walks (j : Journal) (n : ℕ) (facets : List Facet) (old new : Gathered) : Type 0 where
  pub stay : (m : ℕ) → is_pending old m ≡ true → is_pending new m ≡ true
  pub only : (m : ℕ) → is_pending new m ≡ true → (is_pending old m ≡ true) ⊎ (list_any (λ facet. touches_after j n facet m) facets ≡ true)
  pub walked_stay : (facet : Facet) → is_walked old facet ≡ true → is_walked new facet ≡ true
  pub walked : AllByRecursion (λ facet. is_walked new facet ≡ true) facets
  pub covers : Covers j n old → Covers j n new

-- what leans on change n is found
pub record Finds (j : Journal) (n : ℕ) (old new : Gathered) : Type 0 where
  pub stay : (m : ℕ) → is_pending old m ≡ true → is_pending new m ≡ true
  pub only : (m : ℕ) → is_pending new m ≡ true → (is_pending old m ≡ true) ⊎ LeansOn j m n
  pub leaning : Covers j n old → (m : ℕ) → LeansOn j m n → is_pending new m ≡ true
  pub covers : Covers j n old → Covers j n new
