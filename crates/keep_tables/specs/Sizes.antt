-- Sizes as people read them.
use Rattle.std.specs.Prelude.{ℕ, ◌+◌, ◌*◌, ◌/◌, ◌%◌, ◌^◌, nat_lt, if◌then◌else◌, List, ◌++◌, codes}
use Rattle.std.specs.Fmt.{decimal}
use Rattle.keep_tables.specs.Digits.{last_digits}

-- n / d rounded to the nearest number, a half to the even one
abbrev pub rounded : ℕ → ℕ → ℕ
rounded n d =
    if nat_lt (2 * (n % d)) d then n / d
    else (if nat_lt d (2 * (n % d)) then n / d + 1
    else n / d + (n / d) % 2)

-- thousandths as a decimal fraction: `1.234`
abbrev pub thousandths_text : ℕ → List ℕ
thousandths_text n = decimal (n / 1000) ++ (codes "." ++ last_digits 10 3 (n % 1000))

-- so many bytes in a unit of 2^k bytes, to the thousandth
abbrev pub in_unit : ℕ → List ℕ → ℕ → List ℕ
in_unit k unit bytes = thousandths_text (rounded (bytes * 1000) (2 ^ k)) ++ unit

-- so many bytes in the greatest unit of which there is one, as restic writes them: `17 B`, `1.234 MiB`
abbrev pub size_text : ℕ → List ℕ
size_text bytes =
    if nat_lt bytes (2 ^ 10) then decimal bytes ++ codes " B"
    else (if nat_lt bytes (2 ^ 20) then in_unit 10 (codes " KiB") bytes
    else (if nat_lt bytes (2 ^ 30) then in_unit 20 (codes " MiB") bytes
    else (if nat_lt bytes (2 ^ 40) then in_unit 30 (codes " GiB") bytes
    else in_unit 40 (codes " TiB") bytes)))
