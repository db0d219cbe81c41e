-- The time that a text writes: `YYYY-MM-DDTHH:MM:SS`, then a fraction or none, then a zone. The form is that
-- of RFC 3339, section 5.6, with `T` and `Z` in capitals, no second 60 and at most nine digits of fraction.
use Rattle.std.specs.Prelude.{ℕ, ◌+◌, ◌-◌, ◌*◌, ◌^◌, ◌==◌, ◌&&◌, ◌||◌, nat_le, Bool, List, [], ◌∷◌, length, take, drop, slice_index, slice_range, position, Option, None, Some, option_map, ℤ, pos, neg_ℤ, ◌+ℤ◌, ◌-ℤ◌, ◌*ℤ◌, if◌then◌else◌}
use Rattle.std.specs.Char.{is_ascii_digit}
use Rattle.std.specs.Int.{int_div_euclid, is_in_range}
use Rattle.std.specs.Int.Signed.{le_z}
use Rattle.std.specs.List.{list_all}
use Rattle.std.specs.Str.Parse.{digits_value}
use Rattle.jiff_core.specs.Calendar.{days_from_civil, days_in_month, weekday_number}
use Rattle.jiff_core.specs.declared.civil.date.Date.{Date}
use Rattle.keep_docs.specs.Fields.{◌>>=◌}
use Rattle.keep_snap.specs.declared.time.Time.{Time}

-- the number that digits write, if they are digits
abbrev pub number : List ℕ → Option ℕ
number digits = if list_all is_ascii_digit digits then Some (digits_value 10 digits) else None

-- ---- the date

-- a date, as it is written
pub record WrittenDate : Type 0 where
  pub year : ℤ
  pub month : ℕ
  pub day : ℕ

-- a date of the calendar, as it is written
abbrev pub written : Date → WrittenDate
written date = record { year = date.year; month = date.month; day = date.day }

-- the calendar has this day
abbrev pub is_date : ℕ → ℕ → ℕ → Bool
is_date year month day = is_in_range 1 12 month && is_in_range 1 (days_in_month (pos year) month) day

-- the date with these parts, if the calendar has it
abbrev pub date_of : ℕ → ℕ → ℕ → Option WrittenDate
date_of year month day =
    if is_date year month day then Some (record { year = pos year; month = month; day = day }) else None

-- `YYYY-MM-DD`
abbrev pub date_in : List ℕ → Option WrittenDate
date_in text = do
  year ← number (slice_range text 0 4)
  month ← number (slice_range text 5 7)
  day ← number (slice_range text 8 10)
  if (slice_index text 4 == 45) && (slice_index text 7 == 45) then date_of year month day else None

-- the day number: 0 for 1970-01-01
abbrev pub day_of : WrittenDate → ℤ
day_of date = days_from_civil date.year date.month date.day

-- the day number of the Monday that is the day or comes before it
abbrev pub monday_of : ℤ → ℤ
monday_of day = day -ℤ pos (weekday_number day)

-- ---- the time of day and the offset

-- `HH:MM`, in minutes: the hour to 23, the minute to 59
abbrev pub minutes_in : List ℕ → Option ℕ
minutes_in text = do
  hour ← number (slice_range text 0 2)
  minute ← number (slice_range text 3 5)
  if (slice_index text 2 == 58) && nat_le hour 23 && nat_le minute 59 then Some (hour * 60 + minute) else None

-- `THH:MM:SS`, in seconds: the second to 59
abbrev pub clock_in : List ℕ → Option ℕ
clock_in text = do
  minutes ← minutes_in (slice_range text 1 6)
  second ← number (slice_range text 7 9)
  if (slice_index text 0 == 84) && (slice_index text 6 == 58) && nat_le second 59
      then Some (minutes * 60 + second)
      else None

-- an offset in seconds: `Z`, or `+` or `-` and `HH:MM`
abbrev pub offset_in : List ℕ → Option ℤ
offset_in [] = None
offset_in (sign ∷ rest) =
    if (sign == 90) && (length rest == 0) then Some (pos 0)
    else (if (sign == 43) && (length rest == 5) then option_map (λ m. pos (m * 60)) (minutes_in rest)
    else (if (sign == 45) && (length rest == 5) then option_map (λ m. neg_ℤ (pos (m * 60))) (minutes_in rest)
    else None))

-- ---- the fraction

-- nothing, or a point and one to nine digits, in nanoseconds
abbrev pub fraction_in : List ℕ → Option ℕ
fraction_in [] = Some 0
fraction_in (point ∷ digits) =
    if (point == 46) && is_in_range 1 9 (length digits)
    then option_map (λ n. n * 10 ^ (9 - length digits)) (number digits)
    else None

-- ---- the whole

-- a zone begins with `Z`, `+` or `-`
abbrev pub begins_zone : ℕ → Bool
begins_zone c = (c == 90) || (c == 43) || (c == 45)

-- the nanoseconds since 1970 that jiff holds as a timestamp: to 9999-12-30T22:00:00.999999999Z
abbrev pub is_timestamp : ℤ → Bool
is_timestamp n = le_z (neg_ℤ (pos 377_705_023_201_000_000_000)) n && le_z n (pos 253_402_207_200_999_999_999)

-- nanoseconds since 1970: the day number times 86,400, the time of day less the offset, and the fraction
abbrev pub instant_of : ℤ → ℕ → ℤ → ℕ → ℤ
instant_of day seconds offset nanoseconds =
    ((((day *ℤ pos 86_400) +ℤ pos seconds) -ℤ offset) *ℤ pos 1_000_000_000) +ℤ pos nanoseconds

-- a written date at an instant, if it is a timestamp
abbrev pub time_at : WrittenDate → ℤ → Option Time
time_at date instant =
    if is_timestamp instant
    then Some (record {
      instant = instant;
      day = day_of date;
      week = monday_of (day_of date);
      month = record { year = date.year; month = date.month };
      year = date.year;
    })
    else None

-- the time that a date with a time of day, a fraction and a zone write
abbrev pub time_from : List ℕ → List ℕ → List ℕ → Option Time
time_from wall fraction zone = do
  date ← date_in (slice_range wall 0 10)
  seconds ← clock_in (slice_range wall 10 19)
  nanoseconds ← fraction_in fraction
  offset ← offset_in zone
  time_at date (instant_of (day_of date) seconds offset nanoseconds)

-- the time that a text writes
abbrev pub time_in : List ℕ → Option Time
time_in text = do
  at ← position begins_zone (drop 19 text)
  time_from (take 19 text) (take at (drop 19 text)) (drop at (drop 19 text))

-- the whole seconds since 1970-01-01T00:00:00Z of its instant, rounded down
abbrev pub moment_in : List ℕ → Option ℤ
moment_in text = option_map (λ time. int_div_euclid time.instant (pos 1_000_000_000)) (time_in text)
