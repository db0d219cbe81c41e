-- What a line is, as bytes before its end.
use Rattle.std.specs.Prelude.{◌≡◌, ℕ, ◌<◌, ◌≤◌, nat_le, Bool, List, length, slice_index, IsUtf8}
use Rattle.std.specs.List.{AllPass}

-- how many bytes a line has at most
abbrev pub longest_line : ℕ
longest_line = 1048576

-- whether b is no control character below the space
abbrev pub is_printed : ℕ → Bool
is_printed b = nat_le 32 b

-- UTF-8 without control characters below the space
abbrev pub IsText : List ℕ → Type 0
IsText line = IsUtf8 line × AllPass is_printed line

-- nothing, or what begins with the sign of a comment
abbrev pub IsPassedOver : List ℕ → Type 0
IsPassedOver text = (0 < length text) → (slice_index text 0 ≡ 35)

-- a text that isn't too long
abbrev pub IsLine : List ℕ → Type 0
IsLine line = (length line ≤ longest_line) × IsText line
