-- Dates by their number: the calendar day after day.
use Rattle.std.specs.Prelude.{ℕ, zero, suc, ◌+◌, ◌&&◌, nat_lt, Bool, if◌then◌else◌, Option, None, Some, ℤ, pos, neg_ℤ, ◌+ℤ◌, unsigned_abs}
use Rattle.std.specs.Int.Signed.{le_z}
use Rattle.jiff_core.specs.Calendar.{days_in_month}
use Rattle.jiff_core.specs.declared.civil.date.Date.{Date}

-- a date of a year from 0 on
pub record Civil : Type 0 where
  pub year : ℕ
  pub month : ℕ
  pub day : ℕ

-- the day after a date: the next of its month, else the first of the next month, else 1 January
abbrev pub next_day : Civil → Civil
next_day date =
    if nat_lt date.day (days_in_month (pos date.year) date.month) then record date { day = date.day + 1 }
    else (if nat_lt date.month 12 then record { year = date.year; month = date.month + 1; day = 1 }
    else record { year = date.year + 1; month = 1; day = 1 })

-- the date so many days after 0000-01-01
unfoldable pub days_on : ℕ → Civil
days_on zero = record { year = 0; month = 1; day = 1 }
days_on (suc days) = next_day (days_on days)

-- the days from 0000-01-01 to 9999-12-31, by their numbers: 1970-01-01 has 0
abbrev pub has_date : ℤ → Bool
has_date day = le_z (neg_ℤ (pos 719_528)) day && le_z day (pos 2_932_896)

-- the date of a day number, in these years
abbrev pub dated : ℤ → Option Civil
dated day = if has_date day then Some (days_on (unsigned_abs (day +ℤ pos 719_528))) else None

-- a date of the calendar's crate as this
abbrev pub civil_of : Date → Civil
civil_of date = record { year = unsigned_abs date.year; month = date.month; day = date.day }
