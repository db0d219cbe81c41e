-- Instants that nodes say: RFC 3339 in UTC with the nanoseconds that there are, as restic's trees have them (Go's
-- time.RFC3339Nano).
use Rattle.std.specs.Prelude.{◌≡◌, ℕ, ◌<◌, min, List, ◌++◌, false, ℤ, pos, neg_ℤ, ◌+ℤ◌, ◌*ℤ◌, int_lt, unsigned_abs, ◌&&◌, not, Option, None, Some, option_and_then, if◌then◌else◌}
use Rattle.std.specs.Int.{int_div_euclid, int_rem_euclid}
use Rattle.std.specs.Result.{result_ok}
use Rattle.jiff_core.specs.Calendar.{IsBetween}
use Rattle.jiff_core.specs.DateTime.{civil_nanos}
use Rattle.jiff_core.specs.declared.civil.datetime.DateTime.{DateTime}
use Rattle.jiff.specs.Names.{iso_datetime_text}
use Rattle.jiff_fmt.specs.Temporal.{parse_timestamp}
use Rattle.jiff_fmt.specs.Text.{zulu_text}

-- an instant: whole seconds since 1970-01-01T00:00:00Z, rounded down, and the nanoseconds beyond them
pub record StampData : Type 0 where
  pub seconds : ℤ
  pub nanoseconds : ℕ

-- the seconds of 0000-01-01T00:00:00Z and of 9999-12-30T22:00:00Z
abbrev pub first_second : ℤ
first_second = neg_ℤ (pos 62_167_219_200)

abbrev pub last_second : ℤ
last_second = pos 253_402_207_200

-- what a node can say: the instants from the one to the end of the other
abbrev pub IsInstant : ℤ → ℕ → Type 0
IsInstant seconds nanoseconds = IsBetween first_second last_second seconds × (nanoseconds < 1_000_000_000)

-- the instant itself, or the end of the range that is nearest to it
abbrev pub nearest : ℤ → ℕ → StampData
nearest seconds nanoseconds =
    if int_lt seconds first_second then record { seconds = first_second; nanoseconds = 0 }
    else (if int_lt last_second seconds then record { seconds = last_second; nanoseconds = 999_999_999 }
    else record { seconds = seconds; nanoseconds = min nanoseconds 999_999_999 })

-- nanoseconds since 1970
abbrev pub nanos_of : StampData → ℤ
nanos_of stamp = (stamp.seconds *ℤ pos 1_000_000_000) +ℤ pos stamp.nanoseconds

-- ---- written

-- The text of an instant: the date and the time of day that a clock in UTC shows then, as `2022-10-01T12:34:56.1234Z`.
-- The fraction ends with its last digit that isn't 0, and is left out with its point where it is 0.
abbrev pub IsStampText : StampData → List ℕ → Type 0
IsStampText stamp text =
    (clock : DateTime) × (civil_nanos clock ≡ nanos_of stamp) × (text ≡ iso_datetime_text clock ++ zulu_text false)

-- ---- read

-- the instant of so many nanoseconds since 1970, if a node can say it
abbrev pub stamp_at : ℤ → Option StampData
stamp_at instant =
    let seconds = int_div_euclid instant (pos 1_000_000_000) in
    if not (int_lt seconds first_second) && not (int_lt last_second seconds)
    then Some (record { seconds = seconds; nanoseconds = unsigned_abs (int_rem_euclid instant (pos 1_000_000_000)) })
    else None

-- the instant that a text writes, in whatever zone: RFC 3339, and the other spellings of ISO 8601 that jiff reads
abbrev pub stamp_in : List ℕ → Option StampData
stamp_in text = option_and_then stamp_at (result_ok (parse_timestamp text))
