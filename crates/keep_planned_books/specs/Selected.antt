-- Selections of planned changes, with no word of a book.
use Rattle.std.specs.Prelude.{◌≡◌, true, List, [], ◌∷◌, ◌++◌, None}
use Rattle.std.specs.FinSet as set
use Rattle.keep_names.specs.Orders.{id_cmp}
use Rattle.keep_repo.specs.Repository.{Repository}
use Rattle.keep_change.specs.Fold.{Numbered, first_break, fold_of}
use Rattle.keep_change.specs.Form.{HasNoFacetTwice}
use Rattle.keep_change.specs.declared.change.Change.{Change}
use Rattle.keep_sound.specs.Met.{IsPartOf}
use Rattle.keep_sound.specs.Selection.{IsSelection}
use Rattle.keep_view.specs.Shown.{Shown, known_of}
use Rattle.keep_sound.specs.Restic.{restic}
use Rattle.keep_sound.specs.Whole.{IsWhole}
use Rattle.keep_planned_books.specs.History.{BeginsWhole}
use Rattle.keep_planned_books.specs.Jobs.{IsOfJob}

-- The change was planned as a job on what was shown of some repository, whichever it was, whose files are all met. A
-- strict one was planned where just these snapshots were known.
pub record IsPlannedWhere (all : Repository) (known : set.FinSet id_cmp) (c : Change) : Type 0 where
  pub shown : Shown
  pub of_job : IsOfJob all shown (record { change = c; seen = shown.length })
  pub part : IsPartOf shown.repo all
  pub strict : c.strict ≡ true → shown.known ≡ known
  pub once : HasNoFacetTwice c

-- each of the changes was planned so, a strict one where the snapshots of the opening were known, and those that the
-- changes before it add
abbrev pub ArePlanned : Repository → Repository → List Numbered → List Numbered → Type 0
ArePlanned all opening before [] = Unit {0}
ArePlanned all opening before (n ∷ ns) =
    IsPlannedWhere all (known_of opening before) n.change × ArePlanned all opening (before ++ n ∷ []) ns

-- whichever of them are made of a whole opening, in their order, what they make is whole, where all can be made
abbrev pub PlannedSelectionsAreWhole : Type 0
PlannedSelectionsAreWhole =
    (all opening : Repository) (changes chosen : List Numbered)
    → BeginsWhole all opening → ArePlanned all opening [] changes → IsSelection chosen changes
    → first_break chosen opening ≡ None → IsWhole restic (fold_of chosen opening)
