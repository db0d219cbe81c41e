-- Numbers in a fixed count of digits.
use Rattle.std.specs.Prelude.{ℕ, zero, suc, ◌+◌, ◌/◌, ◌%◌, nat_lt, if◌then◌else◌, List, [], ◌∷◌, ◌++◌}

-- the digit of a value below 16: `0` to `9`, then `a` to `f`
abbrev pub digit : ℕ → ℕ
digit value = if nat_lt value 10 then 48 + value else 87 + value

-- the last digits of a number in a base, this many, the high one first
abbrev pub last_digits : ℕ → ℕ → ℕ → List ℕ
last_digits base zero number = []
last_digits base (suc count) number = last_digits base count (number / base) ++ digit (number % base) ∷ []
