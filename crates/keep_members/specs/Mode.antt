-- Modes of files: those of POSIX (sys/stat.h, `st_mode`) and the bits of Go's os.FileMode, which restic's trees have.
use Rattle.std.specs.Prelude.{ℕ, ◌+◌, ◌*◌, ◌/◌, ◌%◌, ◌^◌, ◌==◌, Bool, List, [], ◌∷◌, sum_by, find, Option, None, Some, if◌then◌else◌}
use Rattle.std.specs.List.{list_all, list_any}

-- whether the bit of this place is set
abbrev pub has_bit : ℕ → ℕ → Bool
has_bit mode place = mode / 2 ^ place % 2 == 1

-- The kinds of files: the digit of `st_mode` (its bits 12 to 15), and the places of Go's bits. In this order the first
-- is meant whose bits are all set.
abbrev pub kinds : List (ℕ × List ℕ)
kinds =
    (4, 31 ∷ []) ∷ (10, 27 ∷ []) ∷ (2, 26 ∷ 21 ∷ []) ∷ (6, 26 ∷ []) ∷ (1, 25 ∷ []) ∷ (12, 24 ∷ []) ∷ (8, []) ∷ []

-- set user id, set group id, sticky: the place of the bit of `st_mode`, and that of Go's
abbrev pub marks : List (ℕ × ℕ)
marks = (11, 23) ∷ (10, 22) ∷ (9, 20) ∷ []

-- the bit of the second place, where a mode has that of the first
abbrev pub moved : ℕ → ℕ → ℕ → ℕ
moved mode from to = if has_bit mode from then 2 ^ to else 0

-- the bits at a kind's places, and its digit
abbrev pub bits_of : Option (ℕ × List ℕ) → ℕ
bits_of None = 0
bits_of (Some kind) = sum_by (λ place. 2 ^ place) kind.1

abbrev pub digit_of : Option (ℕ × List ℕ) → ℕ
digit_of None = 0
digit_of (Some kind) = kind.0

-- Go's bits of the kind with this digit; none, where there is no such kind
abbrev pub go_kind : ℕ → ℕ
go_kind digit = bits_of (find (λ kind. kind.0 == digit) kinds)

-- the digit of the kind that Go's bits say
abbrev pub unix_kind : ℕ → ℕ
unix_kind mode = digit_of (find (λ kind. list_all (has_bit mode) kind.1) kinds)

-- Go's mode of an `st_mode`: its kind, its marks and its nine permissions
abbrev pub go_mode : ℕ → ℕ
go_mode unix =
    go_kind (unix / 2 ^ 12 % 2 ^ 4) + sum_by (λ mark. moved unix mark.0 mark.1) marks + unix % 2 ^ 9

-- the `st_mode` of Go's mode
abbrev pub unix_mode : ℕ → ℕ
unix_mode go = unix_kind go * 2 ^ 12 + sum_by (λ mark. moved go mark.1 mark.0) marks + go % 2 ^ 9

-- an `st_mode` of a kind that there is
abbrev pub is_unix_mode : ℕ → Bool
is_unix_mode unix = list_any (λ kind. kind.0 == unix / 2 ^ 12) kinds
