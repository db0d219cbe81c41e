-- The calendar day after day is jiff's.
use Rattle.std.proofs.Common.{FitsSigned, w64, ◌≡◌, ◌∙◌, ℕ, zero, suc, ◌+◌, ◌<◌, ◌≤◌, ℤ, pos, negsuc, neg_ℤ, ◌+ℤ◌, ◌≤ℤ◌, ◌↔◌, Bool, true, false, ap, arith, nat_lt, refl, subst, cond}
use Rattle.std.specs.Int.{IsInRange}
use Rattle.std.specs.Int.Signed.{le_z, lt_z}
use Rattle.std.specs.Prelude.{◌&&◌, unsigned_abs, IsOk, IfOk, Option, Some, Result, Ok, Err, option_map}
use Rattle.std.specs.Result.{result_ok}
use Rattle.std.proofs.lemmas.Bool.Decides.{nat_tests}
use Rattle.std.proofs.lemmas.Int.{ints}
use Rattle.jiff_core.specs.Calendar.{days_from_civil, days_in_month, IsEpochDay}
use Rattle.jiff_core.specs.Date.{epoch_day}
use Rattle.jiff_core.specs.declared.civil.date.Date.{Date}
use Rattle.jiff_core.proofs.CalendarLemmas.{days_from_civil-day_count, days_in_month_bounds}
use Rattle.jiff_core.proofs.DateLemmas.{days_from_civil-day, days_from_civil-next_month, days_from_civil-next_year, days_from_civil-max, epoch_day_injective}
use Rattle.jiff_core.proofs.MarchLemmas.{day_count-early}
use Rattle.jiff_core.proofs.SignedLemmas.{signed_arith}
use Rattle.keep_tables.specs.Dates.{Civil, civil_of, dated, days_on, has_date, next_day}

-- this is the date n days after 0000-01-01
record IsOn (n : ℕ) (c : Civil) : Type 0 where
  pub year : c.year ≤ 9999
  pub month : IsInRange 1 12 c.month
  pub day : IsInRange 1 (days_in_month (pos c.year) c.month) c.day
  pub number : days_from_civil (pos c.year) c.month c.day +ℤ pos 719_528 ≡ pos n

first-day : days_from_civil (pos 0) 1 1 +ℤ pos 719_528 ≡ pos 0
first-day = omega (arith, signed_arith, days_from_civil-day_count, day_count-early (pos 0) 9999 1 1 refl (omega arith) (omega arith) (omega arith))

in-month : (n : ℕ) (c : Civil) → IsOn n c → c.day < days_in_month (pos c.year) c.month → IsOn (n + 1) (record c { day = c.day + 1 })
in-month n c on lt = record {
  year = on.year;
  month = on.month;
  day = (omega arith, omega (arith, lt));
  number = omega (arith, signed_arith, on.number, days_from_civil-day (pos c.year) c.month (c.day + 1) c.day (omega arith) on.day.0);
}

month-ends : (n : ℕ) (c : Civil) → IsOn n c → days_in_month (pos c.year) c.month ≤ c.day → c.month < 12 → IsOn (n + 1) (record { year = c.year; month = c.month + 1; day = 1 })
month-ends n c on ends lt =
    let last : c.day ≡ days_in_month (pos c.year) c.month = omega (arith, on.day) in
    let long = days_in_month_bounds (pos c.year) (c.month + 1) in
    record {
      year = on.year;
      month = (omega arith, omega (arith, lt));
      day = (omega arith, omega (arith, long));
      number = omega (arith, signed_arith, on.number, days_from_civil-next_month (pos c.year) c.month c.day on.month.0 last);
    }

year-ends : (n : ℕ) (c : Civil) → IsOn n c → days_in_month (pos c.year) c.month ≤ c.day → 12 ≤ c.month → n + 1 < 3_652_425 → IsOn (n + 1) (record { year = c.year + 1; month = 1; day = 1 })
year-ends n c on ends late within =
    let twelve : c.month ≡ 12 = omega (arith, on.month) in
    let day : IsInRange 1 31 c.day = subst (λ m. IsInRange 1 (days_in_month (pos c.year) m) c.day) twelve on.day in
    let least : 31 ≤ c.day = subst (λ m. days_in_month (pos c.year) m ≤ c.day) twelve ends in
    let last : c.day ≡ 31 = omega (arith, day, least) in
    let number : days_from_civil (pos c.year) 12 31 +ℤ pos 719_528 ≡ pos n = rw (twelve, last) at on.number in
    let next = days_from_civil-next_year (pos c.year) (pos (c.year + 1)) (omega (arith, signed_arith)) (omega (arith, signed_arith)) in
    let long = days_in_month_bounds (pos (c.year + 1)) 1 in
    record {
      year = before c.year on.year number;
      month = (omega arith, omega arith);
      day = (omega arith, omega (arith, long));
      number = omega (arith, signed_arith, number, next);
    }
  where
    before : (y : ℕ) → y ≤ 9999 → days_from_civil (pos y) 12 31 +ℤ pos 719_528 ≡ pos n → y + 1 ≤ 9999
    before y most number = go (nat_lt y 9999) refl
      where
        go : (b : Bool) → nat_lt y 9999 ≡ b → y + 1 ≤ 9999
        go true h = grind (arith, nat_tests)
        go false h =
            let least : 9999 ≤ y = grind (arith, nat_tests) in
            let same : y ≡ 9999 = omega (arith, least, most) in
            let e : days_from_civil (pos 9999) 12 31 +ℤ pos 719_528 ≡ pos n = rw same at number in
            absurd (omega (arith, signed_arith, e, days_from_civil-max, within))

next-day : (n : ℕ) (c : Civil) → IsOn n c → n + 1 < 3_652_425 → IsOn (n + 1) (next_day c)
next-day n c on within = day (nat_lt c.day (days_in_month (pos c.year) c.month)) refl
  where
    late : (b : Bool) → nat_lt c.month 12 ≡ b → days_in_month (pos c.year) c.month ≤ c.day → IsOn (n + 1) (cond b (record { year = c.year; month = c.month + 1; day = 1 }) (record { year = c.year + 1; month = 1; day = 1 }))
    late true h ends = month-ends n c on ends (grind (arith, nat_tests))
    late false h ends = year-ends n c on ends (grind (arith, nat_tests)) within

    day : (b : Bool) → nat_lt c.day (days_in_month (pos c.year) c.month) ≡ b → IsOn (n + 1) (cond b (record c { day = c.day + 1 }) (cond (nat_lt c.month 12) (record { year = c.year; month = c.month + 1; day = 1 }) (record { year = c.year + 1; month = 1; day = 1 })))
    day true h = in-month n c on (grind (arith, nat_tests))
    day false h = late (nat_lt c.month 12) refl (grind (arith, nat_tests))

on-days : (n : ℕ) → n < 3_652_425 → IsOn n (days_on n)
unfolding days_on
on-days zero within = record { year = omega arith; month = (omega arith, omega arith); day = (omega arith, omega (arith, days_in_month_bounds (pos 0) 1)); number = first-day }
on-days (suc n) within =
    let more : n + 1 ≡ suc n = omega arith in
    subst (λ m. IsOn m (next_day (days_on n))) more (next-day n (days_on n) (on-days n (omega (arith, within))) (omega (arith, within)))

both : (a b : Bool) → a && b ≡ true → (a ≡ true) × (b ≡ true)
both true true e = (refl, refl)
both true false e = cc e
both false b e = cc e

nonnegative : (z : ℤ) → pos 0 ≤ℤ z → pos (unsigned_abs z) ≡ z
nonnegative (pos n) h = refl
nonnegative (negsuc n) h = absurd (omega (arith, signed_arith, h))

-- a date of a day number within these years
pub civil-dated : (d : Date) (day : ℤ) → epoch_day d ≡ day → has_date day ≡ true → civil_of d ≡ days_on (unsigned_abs (day +ℤ pos 719_528))
civil-dated d day e held =
    let ends = both (le_z (neg_ℤ (pos 719_528)) day) (le_z day (pos 2_932_896)) held in
    let n = unsigned_abs (day +ℤ pos 719_528) in
    let is : pos n ≡ day +ℤ pos 719_528 = nonnegative (day +ℤ pos 719_528) (omega (arith, signed_arith, ends.0)) in
    let within : n < 3_652_425 = omega (arith, signed_arith, is, ends.1) in
    let on = on-days n within in
    same (days_on n) on is
  where
    same : (c : Civil) → IsOn (unsigned_abs (day +ℤ pos 719_528)) c → pos (unsigned_abs (day +ℤ pos 719_528)) ≡ day +ℤ pos 719_528 → civil_of d ≡ c
    same c on is =
        let made : Date = record {
          year = pos c.year;
          month = c.month;
          day = c.day;
          year_in = (omega (arith, signed_arith), omega (arith, signed_arith, on.year));
          month_in = on.month;
          day_in = on.day;
        } in
        let number : epoch_day d ≡ epoch_day made = omega (arith, signed_arith, e, on.number, is) in
        let parts = epoch_day_injective d made number in
        rw (parts.0, parts.1, parts.2) refl

has-date : (day : ℤ) → lt_z day (neg_ℤ (pos 719_528)) ≡ false → lt_z (pos 2_932_896) day ≡ false → has_date day ≡ true
has-date day low high = grind (arith, ints)

-- what is found of a day number within these years
pub date-found : {E : Type 0} (r : Result Date E) (o : Option Date) (day z : ℤ) → o ≡ result_ok r → z ≡ day → lt_z day (neg_ℤ (pos 719_528)) ≡ false → lt_z (pos 2_932_896) day ≡ false → (IsOk r ↔ IsEpochDay z) → IfOk r (λ d. epoch_day d ≡ z) → option_map civil_of o ≡ dated day
date-found (Ok d) o day z is same low high some value =
    let has = has-date day low high in
    rw (is, has) (ap Some (civil-dated d day (value ∙ same) has))
date-found {E = E} (Err e) o day z is same low high some value =
    let has = has-date day low high in
    let ends = both (le_z (neg_ℤ (pos 719_528)) day) (le_z day (pos 2_932_896)) has in
    let is_ok : IsOk {T = Date} {E = E} (Err e) = some.1 (omega (arith, signed_arith, same, ends.0, ends.1), omega (arith, signed_arith, same, ends.0, ends.1)) in
    cc is_ok

-- a day number within these years fits 64 bits
pub date-fits : (day : ℤ) → lt_z day (neg_ℤ (pos 719_528)) ≡ false → lt_z (pos 2_932_896) day ≡ false → FitsSigned w64 day
date-fits day low high =
    let ends = both (le_z (neg_ℤ (pos 719_528)) day) (le_z day (pos 2_932_896)) (has-date day low high) in
    omega (arith, signed_arith, ends.0, ends.1)
