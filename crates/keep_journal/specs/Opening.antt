-- The repository under a history: what the changes that can still be undone were made of.
use Rattle.std.specs.Prelude.{◌≡◌, ◌≤◌, List, [], ◌∷◌, length, None, All, IfSome}
use Rattle.keep_repo.specs.Repository.{Repository}
use Rattle.keep_change.specs.Fold.{Numbered, first_break, fold_of}
use Rattle.keep_change.specs.Form.{IsWellFormed}
use Rattle.keep_change.specs.Limits.{facet_limit}
use Rattle.keep_change.specs.Marks.{marks_of}
use Rattle.keep_change.specs.Result.{result_of, reverse_of}
use Rattle.keep_change.specs.Touch.{facets}
use Rattle.keep_journal.specs.History.{committed, last_marks, IsLegal, IsNumbered}
use Rattle.keep_journal.specs.Journal.{Journal}
use Rattle.keep_journal.specs.Kept.{kept}

-- the repository with these changes taken back, the last first
abbrev pub unfold_of : List Numbered → Repository → Repository
unfold_of [] repository = repository
unfold_of (n ∷ ns) repository = result_of (reverse_of n.change) (unfold_of ns repository)

-- the opening under a live repository: all kept changes taken back from it
abbrev pub opening_under : Journal → Repository → Repository
opening_under j live = unfold_of (kept j) live

-- every committed change is well formed
abbrev pub AreWellFormed : Journal → Type 0
AreWellFormed j = All (λ n. IsWellFormed n.change) (committed j)

-- every committed change is within the limit of facets
abbrev pub AreWithinLimit : Journal → Type 0
AreWithinLimit j = All (λ n. length (facets n.change) ≤ facet_limit) (committed j)

-- the events are numbered and legal; the kept changes can be made of the opening in turn, and make the live repository; the opening's marks are those of the last emptying
pub record IsOpen (opening : Repository) (j : Journal) (live : Repository) : Type 0 where
  pub numbered : IsNumbered j
  pub legal : IsLegal j
  pub formed : AreWellFormed j
  pub within : AreWithinLimit j
  pub unbroken : first_break (kept j) opening ≡ None
  pub state : live ≡ fold_of (kept j) opening
  pub marks : IfSome (last_marks j) (λ marks. marks ≡ marks_of opening)
