-- The texts of numbers.
use Rattle.std.specs.Prelude.{◌≡◌, ◌≢◌, ◌<◌, ◌^◌, ℕ, List, length, slice_index}

-- no plus stands in front, and a zero stands there alone
abbrev pub HasPlainFront : List ℕ → Type 0
HasPlainFront digits = (slice_index digits 0 ≢ 43) × (slice_index digits 0 ≡ 48 → length digits ≡ 1)

-- a number of 64 bits, as each one that is printed is
abbrev pub IsNumber : ℕ → Type 0
IsNumber n = n < 2 ^ 64
