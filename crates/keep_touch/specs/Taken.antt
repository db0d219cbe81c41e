-- Which changes have to be taken back with a change, so that nothing that is left leans on any of them.
use Rattle.std.specs.Prelude.{◌≡◌, ℕ, ◌+◌, ◌<◌, ◌==◌, Bool, true, List, [], ◌∷◌, Some}
use Rattle.std.specs.List.{list_any}
use Rattle.keep_change.specs.Touch.{leans_on}
use Rattle.keep_change.specs.declared.change.Change.{Change}
use Rattle.keep_journal.specs.History.{change_of, last_change}
use Rattle.keep_journal.specs.Journal.{Journal}
use Rattle.keep_journal.specs.Kept.{kept_change}

-- change m is later than change n, in force and not final, and touches a facet that n writes
pub record LeansOn (j : Journal) (m n : ℕ) : Type 0 where
  pub change : Change
  pub other : Change
  pub is_m : kept_change j m ≡ Some change
  pub is_n : change_of j n ≡ Some other
  pub later : n < m
  pub touches : leans_on change other ≡ true

-- change n itself, and each change that leans on one that is taken back
pub data IsTaken (j : Journal) (n : ℕ) : ℕ → Type 0 where
  itself : IsTaken j n n
  leaning : (k m : ℕ) → IsTaken j n k → LeansOn j m k → IsTaken j n m

-- whether m is one of the numbers
abbrev pub is_one_of : List ℕ → ℕ → Bool
is_one_of numbers m = list_any (λ k. k == m) numbers

-- the first number is below k, and each other one below the one before it
abbrev pub FallFrom : ℕ → List ℕ → Type 0
FallFrom k [] = Unit {0}
FallFrom k (m ∷ ms) = (m < k) × FallFrom m ms

-- the numbers of the changes that have to be taken back with change n, from the greatest down
pub record AreTaken (j : Journal) (n : ℕ) (numbers : List ℕ) : Type 0 where
  pub down : FallFrom (last_change j + 1) numbers
  pub each : (m : ℕ) → is_one_of numbers m ≡ true → IsTaken j n m
  pub all : (m : ℕ) → IsTaken j n m → is_one_of numbers m ≡ true

-- of all sets that have n, and with a change each one that leans on it, the changes that are taken back are the least
abbrev pub TakenIsLeast : Type 0
TakenIsLeast =
    (j : Journal) (n : ℕ) (has : ℕ → Bool) → has n ≡ true
    → ((k m : ℕ) → has k ≡ true → LeansOn j m k → has m ≡ true)
    → (m : ℕ) → IsTaken j n m → has m ≡ true

-- their numbers, from the greatest down, are one list
abbrev pub OneListIsTaken : Type 0
OneListIsTaken = (j : Journal) (n : ℕ) (xs ys : List ℕ) → AreTaken j n xs → AreTaken j n ys → xs ≡ ys
