-- Texts as a line can hold them: what would end the line, drive a terminal or turn the direction of writing stands in the
-- spelling of Go's strconv.Quote.
use Rattle.std.specs.Prelude.{ℕ, ◌-◌, ◌||◌, Bool, List, [], ◌∷◌, ◌++◌, codes, slice_index, nat_lt, if◌then◌else◌}
use Rattle.std.specs.Char.{is_control, encode_utf8}
use Rattle.std.specs.Int.{is_in_range}
use Rattle.std.specs.List.{flat_map}
use Rattle.std.specs.Str.{chars}
use Rattle.keep_tables.specs.Digits.{last_digits}

-- whether the character ends a line or a paragraph, or turns the direction of writing (Unicode Standard Annex 9)
abbrev pub is_directing : ℕ → Bool
is_directing c =
    is_in_range 0x61C 0x61C c || is_in_range 0x200E 0x200F c || is_in_range 0x2028 0x202E c || is_in_range 0x2066 0x2069 c

-- a control character: `\a` to `\r` by a letter, others below 128 as `\x..`, the rest as `\u....`
abbrev pub escape : ℕ → List ℕ
escape c =
    if is_in_range 7 13 c then codes "\\" ++ slice_index (codes "abtnvfr") (c - 7) ∷ []
    else (if nat_lt c 128 then codes "\\x" ++ last_digits 16 2 c
    else codes "\\u" ++ last_digits 16 4 c)

-- a character as it is shown: all others stand as they are
abbrev pub shown_char : ℕ → List ℕ
shown_char c = if is_control c || is_directing c then escape c else encode_utf8 c

-- characters as they are shown, and a text
abbrev pub shown_chars : List ℕ → List ℕ
shown_chars letters = flat_map shown_char letters

abbrev pub shown_text : List ℕ → List ℕ
shown_text text = shown_chars (chars text)
