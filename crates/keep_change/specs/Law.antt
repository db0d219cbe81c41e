-- The laws on a history of changes: taking one of them out, and putting one in.
use Rattle.std.specs.Prelude.{◌≡◌, true, List, ◌∷◌, ◌++◌, All, if◌then◌else◌, Some, None}
use Rattle.keep_repo.specs.Repository.{Repository, held}
use Rattle.keep_change.specs.declared.change.Change.{Change}
use Rattle.keep_change.specs.Change.{is_ready, is_met}
use Rattle.keep_change.specs.Fold.{Numbered, fold_of, first_break, first_leaning}
use Rattle.keep_change.specs.Form.{HasNoFacetTwice}
use Rattle.keep_change.specs.Holdings.{value_at}
use Rattle.keep_change.specs.Result.{result_of, reverse_of}

-- no change of the list has a facet twice
abbrev pub HaveNoFacetTwice : List Numbered → Type 0
HaveNoFacetTwice ns = All (λ n. HasNoFacetTwice n.change) ns

-- a change that is made where it is ready, and then taken back, leaves what was there
abbrev pub TakingBackRestores : Type 0
TakingBackRestores =
    (c : Change) (r : Repository) → HasNoFacetTwice c → is_ready (held r) c ≡ true
    → result_of (reverse_of c) (result_of c r) ≡ r

-- a history from r with n in it, and the same history without n
pub record WithoutIt
    (earlier : List Numbered) (n : Numbered) (later : List Numbered) (r : Repository) : Type 0 where
  -- without n the first change that isn't met is the first later one that touches what n writes
  pub break : first_break (earlier ++ later) r ≡ first_leaning n.change later
  -- where there is none, all that n wrote is still there at the end
  pub ready : first_leaning n.change later ≡ None
      → is_ready (held (fold_of (earlier ++ n ∷ later) r)) (reverse_of n.change) ≡ true
  -- and to take it back makes the repository that the others make
  pub made : first_leaning n.change later ≡ None
      → fold_of (earlier ++ later) r ≡ result_of (reverse_of n.change) (fold_of (earlier ++ n ∷ later) r)

-- whatever the history, one that is defined with n says so
abbrev pub UndoIsExact : Type 0
UndoIsExact =
    (earlier : List Numbered) (n : Numbered) (later : List Numbered) (r : Repository)
    → HaveNoFacetTwice (earlier ++ n ∷ later) → first_break (earlier ++ n ∷ later) r ≡ None
    → WithoutIt earlier n later r

-- a history from r without n, and the same history with n put in
pub record WithIt
    (earlier : List Numbered) (n : Numbered) (later : List Numbered) (r : Repository) : Type 0 where
  -- the later changes and the end tell what the facets held at n's place
  pub place : value_at later (held (fold_of (earlier ++ later) r)) ≡ held (fold_of earlier r)
  -- with n the first change that isn't met is n, where it isn't met at its place, and else the first later one that touches what n writes
  pub break : first_break (earlier ++ n ∷ later) r ≡
      (if is_met (value_at later (held (fold_of (earlier ++ later) r))) n.change
      then first_leaning n.change later
      else Some n.number)
  -- where there is none, n is ready at the end
  pub ready : first_break (earlier ++ n ∷ later) r ≡ None
      → is_ready (held (fold_of (earlier ++ later) r)) n.change ≡ true
  -- and to make it there makes the repository that all of them make
  pub made : first_break (earlier ++ n ∷ later) r ≡ None
      → fold_of (earlier ++ n ∷ later) r ≡ result_of n.change (fold_of (earlier ++ later) r)

-- whatever the history, one that is defined without n says so
abbrev pub RedoIsExact : Type 0
RedoIsExact =
    (earlier : List Numbered) (n : Numbered) (later : List Numbered) (r : Repository)
    → HaveNoFacetTwice (earlier ++ n ∷ later) → first_break (earlier ++ later) r ≡ None
    → WithIt earlier n later r
