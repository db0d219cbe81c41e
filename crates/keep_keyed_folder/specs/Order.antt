-- The order of what is done in a tree, so that a loss of power leaves an act done or not.
use Rattle.std.specs.Prelude.{◌≡◌, ℕ, Bool, false, List, [], ◌∷◌, ◌++◌}
use Rattle.keep_files.specs.Act.{Act, Made, Removed, Renamed, Synced, Wrote}
use Rattle.keep_files.specs.Path.{IsHeldIn}

-- folders were made, and after each one the folder that holds it was synced
abbrev pub AreMade : List Act → Type 0
AreMade [] = Unit {0}
AreMade (Made folder ∷ (Synced holder ∷ acts)) = IsHeldIn folder holder × AreMade acts
AreMade _ = ⊥

-- the folders that hold these paths were synced in turn, up to one that couldn't be
abbrev pub AreSynced : Bool → List (List ℕ) → List Act → Type 0
AreSynced is_sound [] acts = acts ≡ []
AreSynced is_sound (path ∷ paths) [] = is_sound ≡ false
AreSynced is_sound (path ∷ paths) (Synced holder ∷ acts) = IsHeldIn path holder × AreSynced is_sound paths acts
AreSynced is_sound (path ∷ paths) (_ ∷ acts) = ⊥

-- The bytes come first, beside the file, and its folders; then its name in one step, and what holds the name is synced
-- last. Where that can't be done, the folder isn't sound any more.
pub record IsPutInOrder (before after : List Act) (path bytes tmp : List ℕ) (is_sound : Bool) : Type 0 where
  pub made : List Act
  pub synced : List Act
  pub making : AreMade made
  pub holders_synced : AreSynced is_sound (path ∷ []) synced
  pub acts : after ≡ before ++ Removed tmp ∷ (made ++ Wrote tmp bytes ∷ (Renamed tmp path ∷ synced))

-- The folders come first, then the step, and last the new name is synced and that the old one is gone.
pub record IsShiftedInOrder (before after : List Act) (from to : List ℕ) (is_sound : Bool) : Type 0 where
  pub made : List Act
  pub synced : List Act
  pub making : AreMade made
  pub holders_synced : AreSynced is_sound (to ∷ (from ∷ [])) synced
  pub acts : after ≡ before ++ (made ++ Renamed from to ∷ synced)

-- The step comes first, and then it is synced.
pub record IsTakenInOrder (before after : List Act) (path : List ℕ) (is_sound : Bool) : Type 0 where
  pub synced : List Act
  pub holders_synced : AreSynced is_sound (path ∷ []) synced
  pub acts : after ≡ before ++ Removed path ∷ synced
