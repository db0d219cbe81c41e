-- Names of nodes as restic's trees have them: what Go's strconv.Quote writes between its quotes (Go 1.19, with the
-- tables of Unicode 13).
use Rattle.std.specs.Prelude.{ℕ, zero, suc, ◌/◌, ◌%◌, ◌==◌, ◌&&◌, ◌||◌, not, nat_lt, nat_le, Bool, List, [], ◌∷◌, ◌++◌, length, take, drop, encode_utf8, find, Option, option_map, unwrap_or, if◌then◌else◌}
use Rattle.std.specs.Char.{digit_char}
use Rattle.std.specs.List.{flat_map, list_all}
use Rattle.std.specs.Str.{chars}
use Rattle.std.specs.Str.Lossy.{after_first_chunk, utf8_invalid_len, utf8_valid_len}
use Rattle.ucd_age.specs.Age.{age, age_number}
use Rattle.ucd_age.specs.declared.Age.TheVariants.{V13_0}
use Rattle.ucd_category.specs.GeneralCategory.{general_category}
use Rattle.ucd_category.specs.GeneralCategoryGroup.{in_group}
use Rattle.ucd_category.specs.declared.GeneralCategoryGroup.TheVariants.{Other, Separator}

-- ---- characters

-- What Go prints as it is: the space, and what is a letter, a mark, a number, a punctuation or a symbol in Unicode 13
-- (Go's strconv.IsPrint).
abbrev pub is_printable : ℕ → Bool
is_printable c =
    c == 32 || (not (in_group Other (general_category c)) && not (in_group Separator (general_category c))
    && nat_le (age_number (age c)) (age_number V13_0))

-- printed as it is: no quote and no backslash either
abbrev pub is_plain : ℕ → Bool
is_plain c = is_printable c && not (c == 34 || c == 92)

-- the characters that have a name behind a backslash: \a, \b, \f, \n, \r, \t, \v, the quote and the backslash
abbrev pub names : List (ℕ × ℕ)
names =
    (7, 97) ∷ (8, 98) ∷ (12, 102) ∷ (10, 110) ∷ (13, 114) ∷ (9, 116) ∷ (11, 118) ∷ (34, 34) ∷ (92, 92) ∷ []

-- the name of a character
abbrev pub letter_for : ℕ → Option ℕ
letter_for c = option_map (λ name. name.1) (find (λ name. name.0 == c) names)

-- a number below 2^8, and one below 2^16, in hex digits of lower case
abbrev pub hex2 : ℕ → List ℕ
hex2 n = digit_char (n / 16) ∷ digit_char (n % 16) ∷ []

abbrev pub hex4 : ℕ → List ℕ
hex4 n = hex2 (n / 256) ++ hex2 (n % 256)

-- a byte that is no text: `\xff`
abbrev pub byte_escape : ℕ → List ℕ
byte_escape b = 92 ∷ 120 ∷ hex2 b

-- a character that isn't printed: `\x01`, `\u00ad` or `\U000e0001`
abbrev pub number_escape : ℕ → List ℕ
number_escape c =
    if nat_lt c 32 || c == 127 then byte_escape c
    else (if nat_lt c 65536 then 92 ∷ 117 ∷ hex4 c
    else 92 ∷ 85 ∷ hex4 (c / 65536) ++ hex4 (c % 65536))

-- what is written for a character: its name, else itself where it is printed, else its number
abbrev pub escape : ℕ → List ℕ
escape c =
    unwrap_or (option_map (λ name. 92 ∷ name ∷ []) (letter_for c))
    (if is_printable c then encode_utf8 c else number_escape c)

-- ---- bytes

-- NUL and `/`, which no file name has (POSIX, "Filename")
abbrev pub is_never : ℕ → Bool
is_never b = b == 0 || b == 47

-- whether these are bytes
abbrev pub are_bytes : List ℕ → Bool
are_bytes bytes = list_all (λ b. nat_lt b 256) bytes

-- what is written for a text
abbrev pub text_quoted : List ℕ → List ℕ
text_quoted bytes = flat_map escape (chars bytes)

-- and for bytes that are none
abbrev pub bytes_quoted : List ℕ → List ℕ
bytes_quoted bytes = flat_map byte_escape bytes

-- What is written for bytes with at most so many places where they aren't UTF-8: the text up to there, then the bytes
-- that are none, then what comes behind these.
abbrev pub quoted_within : ℕ → List ℕ → List ℕ
quoted_within zero bytes = text_quoted bytes
quoted_within (suc k) bytes =
    if utf8_valid_len bytes == length bytes then text_quoted bytes
    else (text_quoted (take (utf8_valid_len bytes) bytes)
    ++ (bytes_quoted (take (utf8_invalid_len (drop (utf8_valid_len bytes) bytes)) (drop (utf8_valid_len bytes) bytes))
    ++ quoted_within k (after_first_chunk bytes)))

-- the name, quoted
unfoldable pub quoted : List ℕ → List ℕ
quoted bytes = quoted_within (length bytes) bytes
