-- What selections of changes make that each keep a whole repository whole.
use Rattle.std.specs.Prelude.{◌≡◌, List, None}
use Rattle.keep_repo.specs.Repository.{Repository}
use Rattle.keep_change.specs.Fold.{Numbered, first_break, fold_of}
use Rattle.keep_sound.specs.Met.{IsPartOf}
use Rattle.keep_sound.specs.Selection.{AllKeep, IsSelection, has_snapshot}
use Rattle.keep_sound.specs.Whole.{IsWhole, Says}

-- whatever files say: if the opening is whole, and each of some changes keeps that where the snapshots before it are
-- known, then whichever of them are made of the opening, in their order, what they make is whole, where all can be made
abbrev pub SelectionsAreWhole : Type 0
SelectionsAreWhole =
    (says : Says) (all opening : Repository) (changes chosen : List Numbered)
    → IsPartOf opening all → IsWhole says opening → AllKeep (IsWhole says) all (has_snapshot opening) changes
    → IsSelection chosen changes → first_break chosen opening ≡ None → IsWhole says (fold_of chosen opening)
