-- Selections of numbered changes, each of them safe where the snapshots before it are known.
use Rattle.std.specs.Prelude.{◌≡◌, Bool, ◌||◌, List, [], ◌∷◌, ◌++◌, filter, None}
use Rattle.keep_names.specs.FileName.{named}
use Rattle.keep_names.specs.declared.file_name.Kind.TheVariants.{Snapshot}
use Rattle.keep_names.specs.declared.id.Id.{Id}
use Rattle.keep_repo.specs.Repository.{Repository, is_filled}
use Rattle.keep_change.specs.Filling.{has_name}
use Rattle.keep_change.specs.Fold.{Numbered, first_break, fold_of}
use Rattle.keep_change.specs.Form.{HasNoFacetTwice}
use Rattle.keep_change.specs.Lists.{file_names}
use Rattle.keep_reach.specs.Sound.{IsSound}
use Rattle.keep_sound.specs.Careful.{IsSafe, Keeps}
use Rattle.keep_sound.specs.Met.{AddsPart, IsPartOf}
use Rattle.keep_sound.specs.Standing.{file_facet}

-- the first list is the second without some of its changes
pub data IsSelection : List Numbered → List Numbered → Type 0 where
  nothing : IsSelection [] []
  taken : (n : Numbered) (ms ns : List Numbered) → IsSelection ms ns → IsSelection (n ∷ ms) (n ∷ ns)
  passed : (n : Numbered) (ms ns : List Numbered) → IsSelection ms ns → IsSelection ms (n ∷ ns)

-- these snapshots, and those that the change adds
abbrev pub with_added : (Id → Bool) → Numbered → Id → Bool
with_added known n snapshot = known snapshot || has_name (file_names n.change.adds) (named Snapshot snapshot)

-- these, and those that the changes add
abbrev pub known_by : (Id → Bool) → List Numbered → Id → Bool
known_by known [] = known
known_by known (n ∷ ns) = known_by (with_added known n) ns

-- the snapshots of the opening, and those that the changes add that aren't final
abbrev pub has_snapshot : Repository → Id → Bool
has_snapshot r snapshot = is_filled r (file_facet Snapshot snapshot)

abbrev pub known_in : Repository → List Numbered → Id → Bool
known_in opening kept = known_by (has_snapshot opening) kept

-- each change has no facet twice, adds files that are met, and keeps what is so where the snapshots before it are known
abbrev pub AllKeep : (Repository → Type 0) → Repository → (Id → Bool) → List Numbered → Type 0
AllKeep IsSo all known [] = Unit {0}
AllKeep IsSo all known (n ∷ ns) =
    HasNoFacetTwice n.change × AddsPart all n.change × Keeps IsSo all known n.change
    × AllKeep IsSo all (with_added known n) ns

-- each is safe there
abbrev pub AreSafe : Repository → (Id → Bool) → List Numbered → Type 0
AreSafe all known ns = AllKeep IsSound all known ns

-- the opening is sound and its files are met, and each change that isn't final is safe
pub record IsSoundHistory (all opening : Repository) (kept : List Numbered) : Type 0 where
  pub part : IsPartOf opening all
  pub sound : IsSound opening
  pub safe : AreSafe all (has_snapshot opening) kept

-- what a selection of the changes makes of the opening, where that is defined, is sound, and its files are met
pub record IsSoundState (all state : Repository) : Type 0 where
  pub sound : IsSound state
  pub part : IsPartOf state all

abbrev pub SelectionsAreSound : Type 0
SelectionsAreSound =
    (all opening : Repository) (kept chosen : List Numbered) → IsSoundHistory all opening kept
    → IsSelection chosen kept → first_break chosen opening ≡ None → IsSoundState all (fold_of chosen opening)

-- a commit keeps that, if its change is safe for the known snapshots
abbrev pub CommitsStaySound : Type 0
CommitsStaySound =
    (all opening : Repository) (kept : List Numbered) (n : Numbered) → IsSoundHistory all opening kept
    → HasNoFacetTwice n.change → AddsPart all n.change → IsSafe all (known_in opening kept) n.change
    → IsSoundHistory all opening (kept ++ n ∷ [])

-- so does an emptying, by which the opening moves over some of the changes that become final
abbrev pub EmptyingsStaySound : Type 0
EmptyingsStaySound =
    (all opening : Repository) (final rest chosen : List Numbered) → IsSoundHistory all opening (final ++ rest)
    → IsSelection chosen final → first_break chosen opening ≡ None
    → IsSoundHistory all (fold_of chosen opening) rest

-- the changes that pass a test, as those in force, are a selection
abbrev pub FiltersAreSelections : Type 0
FiltersAreSelections = (test : Numbered → Bool) (kept : List Numbered) → IsSelection (filter test kept) kept
