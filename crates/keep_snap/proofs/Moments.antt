-- The whole seconds of a written time's instant fit 64 bits.
use Rattle.std.proofs.Common.{◌≡◌, ◌∙◌, ℕ, ℤ, pos, neg_ℤ, Bool, true, false, List, Option, Some, None, FitsSigned, w64, ap, arith, refl}
use mir.Syntax.{w128}
use Rattle.std.specs.Int.{int_div_euclid}
use Rattle.std.specs.Prelude.{◌&&◌, drop, option_and_then, position, slice_range, take}
use Rattle.std.specs.Int.Signed.{le_z}
use Rattle.jiff_core.proofs.SignedLemmas.{signed_arith}
use Rattle.keep_snap.specs.Time.{WrittenDate, begins_zone, clock_in, date_in, day_of, fraction_in, instant_of, is_timestamp, offset_in, time_at, time_from, time_in}
use Rattle.keep_snap.specs.declared.time.Time.{Time}

at-timestamp : (date : WrittenDate) (instant : ℤ) (time : Time) → time_at date instant ≡ Some time → is_timestamp time.instant ≡ true
at-timestamp date instant time e = go (is_timestamp instant) refl
  where
    go : (b : Bool) → is_timestamp instant ≡ b → is_timestamp time.instant ≡ true
    go true held =
        let same : time.instant ≡ instant = cc (rw held at e) in
        ap is_timestamp same ∙ held
    go false out = cc (rw out at e)

-- what is found after a value has what all that may follow has
after : {A : Type 0} (o : Option A) (f : A → Option Time) → ((a : A) (time : Time) → f a ≡ Some time → is_timestamp time.instant ≡ true) → (time : Time) → option_and_then f o ≡ Some time → is_timestamp time.instant ≡ true
after None f all time e = cc e
after (Some a) f all time e = all a time e

from-timestamp : (wall fraction zone : List ℕ) (time : Time) → time_from wall fraction zone ≡ Some time → is_timestamp time.instant ≡ true
from-timestamp wall fraction zone =
    after (date_in (slice_range wall 0 10)) _ (λ date.
    after (clock_in (slice_range wall 10 19)) _ (λ seconds.
    after (fraction_in fraction) _ (λ nanoseconds.
    after (offset_in zone) _ (λ offset.
    at-timestamp date (instant_of (day_of date) seconds offset nanoseconds)))))

-- the instant of a time that is written is one that jiff holds
pub in-timestamp : (text : List ℕ) (time : Time) → time_in text ≡ Some time → is_timestamp time.instant ≡ true
in-timestamp text =
    after (position begins_zone (drop 19 text)) _ (λ at.
    from-timestamp (take 19 text) (take at (drop 19 text)) (drop at (drop 19 text)))

both : (a b : Bool) → a && b ≡ true → (a ≡ true) × (b ≡ true)
both true true e = (refl, refl)
both true false e = cc e
both false b e = cc e

-- such an instant fits 128 bits, and its whole seconds 64
pub instant-fits : (instant : ℤ) → is_timestamp instant ≡ true → FitsSigned w128 instant
instant-fits instant held =
    let ends = both (le_z (neg_ℤ (pos 377_705_023_201_000_000_000)) instant) (le_z instant (pos 253_402_207_200_999_999_999)) held in
    omega (arith, signed_arith, ends.0, ends.1)

pub seconds-fit : (instant : ℤ) → is_timestamp instant ≡ true → FitsSigned w64 (int_div_euclid instant (pos 1_000_000_000))
seconds-fit instant held =
    let ends = both (le_z (neg_ℤ (pos 377_705_023_201_000_000_000)) instant) (le_z instant (pos 253_402_207_200_999_999_999)) held in
    omega (arith, signed_arith, ends.0, ends.1)
