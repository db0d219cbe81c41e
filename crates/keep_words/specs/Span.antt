-- Spans of time, as words write them: a number and a letter for its unit.
use Rattle.std.specs.Prelude.{◌-◌, ◌*◌, ◌^◌, ◌==◌, nat_lt, ℕ, List, Option, Some, None, if◌then◌else◌, length, option_and_then, slice_get, take}
use Rattle.keep_words.specs.Read.{number_in}

-- how many seconds a unit has, by its letter: `s` (115), `m` (109), `h` (104), `d` (100) or `w` (119)
abbrev pub seconds_of : ℕ → Option ℕ
seconds_of letter =
    if letter == 115 then Some 1 else if letter == 109 then Some 60 else if letter == 104 then Some 3600
    else if letter == 100 then Some 86400 else if letter == 119 then Some 604800 else None

-- a number of 64 bits
abbrev pub fitting : ℕ → Option ℕ
fitting number = if nat_lt number (2 ^ 64) then Some number else None

-- so many seconds, so often
abbrev pub times : List ℕ → ℕ → Option ℕ
times digits seconds = option_and_then (λ number. fitting (number * seconds)) (number_in digits)

-- how many seconds a text writes, if it is a span of 64 bits: a number and behind it a unit, as `7d`
abbrev pub span_in : List ℕ → Option ℕ
span_in text =
    option_and_then (λ letter. option_and_then (times (take (length text - 1) text)) (seconds_of letter))
    (slice_get text (length text - 1))
