-- Moments as people and programs read them.
use Rattle.std.specs.Prelude.{ℕ, ◌/◌, ◌%◌, List, [], ◌∷◌, ◌++◌, codes, Option, None, Some, ℤ, pos, ◌+ℤ◌, unsigned_abs}
use Rattle.std.specs.Fmt.{signed_decimal}
use Rattle.std.specs.Int.{int_div_euclid, int_rem_euclid}
use Rattle.keep_tables.specs.Dates.{Civil, dated}
use Rattle.keep_tables.specs.Digits.{last_digits}

-- two digits
abbrev pub two : ℕ → List ℕ
two n = last_digits 10 2 n

-- `YYYY-MM-DD`
abbrev pub date_text : Civil → List ℕ
date_text date = last_digits 10 4 date.year ++ (codes "-" ++ (two date.month ++ (codes "-" ++ two date.day)))

-- `HH:MM:SS`, of the seconds of a day
abbrev pub clock_text : ℕ → List ℕ
clock_text seconds =
    two (seconds / 3600) ++ (codes ":" ++ (two (seconds / 60 % 60) ++ (codes ":" ++ two (seconds % 60))))

-- a day's date, the sign that parts it from the time of day, that time, and what ends it; `@SECONDS` where the day has no
-- date here
abbrev pub day_text : ℕ → List ℕ → ℤ → Option Civil → List ℕ
day_text parting ending seconds (Some date) =
    date_text date ++ (parting ∷ clock_text (unsigned_abs (int_rem_euclid seconds (pos 86_400))) ++ ending)
day_text parting ending seconds None = codes "@" ++ signed_decimal seconds

-- so many seconds since 1970-01-01T00:00:00, on a clock whose days have 86,400 seconds
abbrev pub wall_text : ℕ → List ℕ → ℤ → List ℕ
wall_text parting ending seconds = day_text parting ending seconds (dated (int_div_euclid seconds (pos 86_400)))

-- a moment, on a clock that is so many seconds ahead of UTC: `2026-11-28 14:05:09`
abbrev pub local_text : ℤ → ℤ → List ℕ
local_text moment offset = wall_text 32 [] (moment +ℤ offset)

-- a moment as RFC 3339 writes it in UTC: `2026-11-28T13:05:09Z`
abbrev pub utc_text : ℤ → List ℕ
utc_text moment = wall_text 84 (codes "Z") moment
