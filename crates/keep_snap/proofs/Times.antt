-- Digits, dates and timestamps.
use Rattle.std.proofs.Common.{◌≡◌, ℕ, ◌^◌, ◌<◌, ◌≤◌, ◌↔◌, List, length, Bool, true, false, cond, Option, None, Some, option_map, Result, Ok, Err, IsOk, IfOk, IfSome, IsUtf8, ℤ, pos, to_z, w8, refl, sym, subst, arith, rules}
use mir.Syntax.{w16}
use Rattle.std.specs.Char.{is_ascii_digit}
use Rattle.std.specs.Int.{IsInRange, is_in_range}
use Rattle.std.specs.List.{list_all}
use Rattle.std.specs.Result.{result_ok}
use Rattle.std.specs.Str.Parse.{ParsesUnsigned, digits_value}
use Rattle.std.proofs.lemmas.Bool.Decides.{nat_tests}
use Rattle.std.proofs.lemmas.Fmt.{IsAscii-from_digits}
use Rattle.std.proofs.lemmas.Int.{ints, to_z_pos}
use Rattle.std.proofs.lemmas.Str.{IsUtf8-from_ascii}
use Rattle.std.proofs.lemmas.Str.Parse.{IsNumeralModel, digits_value_short, numerals_by_value, parse_gives}
use Rattle.jiff_core.specs.Calendar.{IsDate, days_in_month}
use Rattle.jiff_core.specs.Date.{IsYmd}
use Rattle.jiff_core.specs.Timestamp.{IsTimestampNanos}
use Rattle.jiff_core.specs.declared.civil.date.Date.{Date}
use Rattle.jiff_core.specs.declared.error.Error.{Error}
use Rattle.keep_snap.specs.Time.{WrittenDate, date_of, day_of, is_date, is_timestamp, monday_of, number, time_at, written}

-- ---- digits

numeral : IsNumeralModel (λ ds. list_all is_ascii_digit ds ≡ true) (digits_value 10)
numeral = numerals_by_value _ (search rules)

-- digits are UTF-8
pub digits_utf8 : (ds : List ℕ) → list_all is_ascii_digit ds ≡ true → IsUtf8 ds
digits_utf8 ds digits = IsUtf8-from_ascii ds (IsAscii-from_digits ds (numeral.to ds digits))

-- one to nine digits are parsed
pub number_parsed : {E : Type 0} (ds : List ℕ) (r : Result ℕ E) → IsInRange 1 9 (length ds) → list_all is_ascii_digit ds ≡ true → ParsesUnsigned 32 10 ds r → result_ok r ≡ number ds
number_parsed ds r size digits parsed =
    let some : 0 < length ds = omega arith in
    let few : length ds ≤ 9 = omega arith in
    let small : digits_value 10 ds < 10 ^ 9 = digits_value_short numeral ds 9 digits few in
    let fits : digits_value 10 ds < 2 ^ 32 = omega arith in
    rw (parse_gives numeral 32 ds r parsed digits some fits, digits)

number_below_at : (ds : List ℕ) (b : Bool) → list_all is_ascii_digit ds ≡ b → IfSome (cond b (Some (digits_value 10 ds)) None) (λ n. n < 10 ^ length ds)
number_below_at ds true digits = digits_value_short numeral ds (length ds) digits (omega arith)
number_below_at ds false other = tt

-- k digits write a number below 10^k
pub number_below : (ds : List ℕ) (found : Option ℕ) → found ≡ number ds → IfSome found (λ n. n < 10 ^ length ds)
number_below ds found is =
    let P : Option ℕ → Type 0 = λ o. IfSome o (λ n. n < 10 ^ length ds) in
    subst P (sym is) (number_below_at ds (list_all is_ascii_digit ds) refl)

-- ---- dates

in_calendar : (y m d : ℕ) → IsDate (pos y) (pos m) (pos d) → is_date y m d ≡ true
in_calendar y m d (in_year, in_month, in_day) =
    let a : is_in_range 1 12 m ≡ true = grind (arith, nat_tests, ints) in
    let b : is_in_range 1 (days_in_month (pos y) m) d ≡ true = grind (arith, nat_tests, ints) in
    rw (a, b)

not_in_calendar : (y m d : ℕ) (b : Bool) → y < 10000 → is_date y m d ≡ b → (IsDate (pos y) (pos m) (pos d) → ⊥) → b ≡ false
not_in_calendar y m d false small is other = refl
not_in_calendar y m d true small is other = absurd (other (of_test y m d small is))
  where
    of_test : (y m d : ℕ) → y < 10000 → is_date y m d ≡ true → IsDate (pos y) (pos m) (pos d)
    of_test y m d small is = grind (arith, nat_tests, ints)

dated_plain : (y m d : ℕ) (r : Result Date Error) → y < 10000 → (IsOk r ↔ IsDate (pos y) (pos m) (pos d)) → IfOk r (IsYmd (pos y) (pos m) (pos d))
    → option_map written (result_ok r) ≡ date_of y m d
dated_plain y m d (Ok date) small succeeds (year, month, day) =
    let month_is : date.month ≡ m = omega (arith, ints) in
    let day_is : date.day ≡ d = omega (arith, ints) in
    rw (in_calendar y m d (succeeds.0 refl), year, month_is, day_is)
dated_plain y m d (Err e) small succeeds is =
    rw (not_in_calendar y m d (is_date y m d) small refl (λ h. let no = succeeds.1 h in cc))

-- what jiff makes of a year, a month and a day
pub dated : (y m d : ℕ) (r : Result Date Error) → y < 10000 → m < 100 → d < 100 → (IsOk r ↔ IsDate (to_z w16 y) (to_z w8 m) (to_z w8 d)) → IfOk r (IsYmd (to_z w16 y) (to_z w8 m) (to_z w8 d))
    → option_map written (result_ok r) ≡ date_of y m d
dated y m d r ys ms ds succeeds is =
    let a : to_z w16 y ≡ pos y = to_z_pos w16 y (omega arith) in
    let b : to_z w8 m ≡ pos m = to_z_pos w8 m (omega arith) in
    let e : to_z w8 d ≡ pos d = to_z_pos w8 d (omega arith) in
    dated_plain y m d r ys (rw (a, b, e) at succeeds) (rw (a, b, e) at is)

-- ---- instants

timestamp_yes : (n : ℤ) → IsTimestampNanos n → is_timestamp n ≡ true
timestamp_yes n h = grind (arith, ints)

-- jiff has the instant
pub timestamp_found : {T E : Type 0} (n : ℤ) (r : Result T E) (t : T) → (IsOk r ↔ IsTimestampNanos n) → result_ok r ≡ Some t → is_timestamp n ≡ true
timestamp_found n (Ok t) found succeeds is = timestamp_yes n (succeeds.0 refl)
timestamp_found n (Err e) found succeeds is = cc

-- what is known at an instant that jiff has
pub time_made : (date : WrittenDate) (n i d w y z : ℤ) (m : ℕ) → is_timestamp n ≡ true → i ≡ n → d ≡ day_of date → w ≡ monday_of (day_of date) → y ≡ date.year → m ≡ date.month → z ≡ date.year
    → Some (record { instant = i; day = d; week = w; month = record { year = y; month = m }; year = z }) ≡ time_at date n
time_made date n i d w y z m fits is day week year month too = rw (fits, is, day, week, year, month, too)
