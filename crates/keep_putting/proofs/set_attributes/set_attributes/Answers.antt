use Rattle.std.proofs.Common.{OnOk, Result, Ok, Err, Option, List, ℕ}
use Rattle.keep_targets.specs.Call.{Call}
use Rattle.keep_targets.specs.declared.attributes.Owner.{Owner}
use Rattle.keep_putting.proofs.Care.{both, still_own}
use Rattle.keep_putting.specs.Attributes.{AreApplied, IsTriedIf, mode_act, owner_act, times_act}
use Rattle.keep_putting.specs.declared.left_out.LeftOut.{LeftOut}
use Rattle.keep_putting.specs.declared.left_out.Why.TheVariants as why
use Rattle.keep_putting.specs.declared.wanted.Wanted.{Wanted}
use Rattle.keep_putting.proofs.set_attributes.set_attributes.Goals as goal

pub returns-in_err-set_mode-clause-careful : goal.returns-in_err-set_mode-clause-careful
returns-in_err-set_mode-clause-careful g c = λ own.
    let first = c.set_owner.ensures.careful own in
    both _ _ _ first (c.set_mode.ensures.careful (still_own _ _ _ first own))

pub returns-clause-careful : goal.returns-clause-careful
returns-clause-careful g c = λ own.
    let first = c.set_owner.ensures.careful own in
    let owned = still_own _ _ _ first own in
    let second = c.set_mode.ensures.careful owned in
    both _ _ _ first (both _ _ _ second (c.set_times.ensures.careful (still_own _ _ _ second owned)))

in_order : {E : Type 0} (result : Result (Unit {0}) E) (before owned moded after : List Call) (left owned_left moded_left named : List LeftOut)
    (wanted : Wanted) (place : List ℕ) (owner : Option Owner)
    → IsTriedIf owner (owner_act place) before owned left owned_left wanted why.NoOwner
    → IsTriedIf wanted.mode (mode_act place) owned moded owned_left moded_left wanted why.NoMode
    → OnOk result (IsTriedIf wanted.times (times_act place) moded after moded_left named wanted why.NoTimes)
    → OnOk result (AreApplied before after left named wanted place owner)
in_order (Ok _) before owned moded after left owned_left moded_left named wanted place owner a b c = record {
  owned = owned;
  moded = moded;
  owned_left = owned_left;
  moded_left = moded_left;
  owner_set = a;
  mode_set = b;
  times_set = c;
}
in_order (Err e) before owned moded after left owned_left moded_left named wanted place owner a b c = c

pub returns-clause-applied : goal.returns-clause-applied
returns-clause-applied g c =
    in_order c.set_times.result _ _ _ _ _ _ _ _ c.args.wanted.now c.args.place.now c.args.owner c.in_ok-set_owner.ensures.tried c.in_ok-set_mode.ensures.tried c.set_times.ensures.tried
