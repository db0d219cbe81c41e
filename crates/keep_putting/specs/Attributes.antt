-- Owner, mode and times of what was made.
use Rattle.std.specs.Prelude.{◌≡◌, ℕ, ◌⊎◌, Option, None, Some, List, [], ◌∷◌, ◌++◌}
use Rattle.keep_targets.specs.Call.{Act, Call, Did, Refused, SetLinkOwner, SetMode, SetOwner, SetTimes}
use Rattle.keep_targets.specs.declared.attributes.Owner.{Owner}
use Rattle.keep_targets.specs.declared.attributes.Times.{Times}
use Rattle.keep_targets.specs.declared.target_error.TargetError.{TargetError}
use Rattle.keep_putting.specs.Leaving.{IsNamedNext}
use Rattle.keep_putting.specs.declared.left_out.LeftOut.{LeftOut}
use Rattle.keep_putting.specs.declared.left_out.Why.{Why}
use Rattle.keep_putting.specs.declared.left_out.Why.TheVariants as why
use Rattle.keep_putting.specs.declared.wanted.Wanted.{Wanted}

abbrev pub owner_act : List ℕ → Owner → Act
owner_act place owner = SetOwner place owner

abbrev pub link_owner_act : List ℕ → Owner → Act
link_owner_act place owner = SetLinkOwner place owner

abbrev pub mode_act : List ℕ → ℕ → Act
mode_act place mode = SetMode place mode

abbrev pub times_act : List ℕ → Times → Act
times_act place times = SetTimes place times

-- an act was done, or it was refused and that is named
abbrev pub IsTried : Act → List Call → List Call → List LeftOut → List LeftOut → Wanted → (TargetError → Why) → Type 0
IsTried act before after left named wanted why =
    ((after ≡ before ++ Did act ∷ []) × (named ≡ left))
    ⊎ ((refusal : TargetError) × (after ≡ before ++ Refused refusal ∷ []) × IsNamedNext left named wanted (why refusal))

-- so it is of what is said, and of what isn't said nothing is asked
abbrev pub IsTriedIf : {A : Type 0} → Option A → (A → Act) → List Call → List Call → List LeftOut → List LeftOut → Wanted → (TargetError → Why) → Type 0
IsTriedIf None act before after left named wanted why = (after ≡ before) × (named ≡ left)
IsTriedIf (Some said) act before after left named wanted why = IsTried (act said) before after left named wanted why

-- the owner first, then the mode, and last the times
pub record AreApplied (before after : List Call) (left named : List LeftOut) (wanted : Wanted) (place : List ℕ) (owner : Option Owner) : Type 0 where
  pub owned : List Call
  pub moded : List Call
  pub owned_left : List LeftOut
  pub moded_left : List LeftOut
  pub owner_set : IsTriedIf owner (owner_act place) before owned left owned_left wanted why.NoOwner
  pub mode_set : IsTriedIf wanted.mode (mode_act place) owned moded owned_left moded_left wanted why.NoMode
  pub times_set : IsTriedIf wanted.times (times_act place) moded after moded_left named wanted why.NoTimes
