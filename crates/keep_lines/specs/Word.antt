-- The words of a line: each is the text of a value.
use Rattle.std.specs.Prelude.{ℕ, ◌<◌, ◌≤◌, ◌==◌, ◌&&◌, ◌||◌, nat_le, Bool, List, [], ◌∷◌, ◌++◌, length, codes}
use Rattle.std.specs.Global.{Vec}
use Rattle.std.specs.Fmt.{decimal}
use Rattle.std.specs.List.{AllPass}
use Rattle.hex.specs.Hex.{IsBytes, encode_lower}
use Rattle.keep_names.specs.Number.{IsNumber}
use Rattle.keep_names.specs.Id.{IsDigest, id_text}
use Rattle.keep_lines.specs.declared.word.MeantFile.{MeantFile}
use Rattle.keep_lines.specs.declared.word.MeantFile.TheVariants.{Named, AddedBy}

-- bytes in lower case hex, none of them as a dash
abbrev pub hex_text : List ℕ → List ℕ
hex_text [] = codes "-"
hex_text (b ∷ bs) = encode_lower (b ∷ bs)

-- a vector of bytes in lower case hex, none of them as a dash
abbrev pub hex_word : Vec ℕ → List ℕ
hex_word bytes = hex_text bytes.items

-- a vector of bytes
abbrev pub AreBytes : Vec ℕ → Type 0
AreBytes bytes = IsBytes bytes.items

-- whether c is an ASCII letter or digit, or a dash
abbrev pub is_name_byte : ℕ → Bool
is_name_byte c =
    (nat_le 48 c && nat_le c 57) || (nat_le 65 c && nat_le c 90) || (nat_le 97 c && nat_le c 122) || (c == 45)

-- 1 to 64 ASCII letters, digits or dashes
abbrev pub IsName : List ℕ → Type 0
IsName word = (0 < length word) × (length word ≤ 64) × AllPass is_name_byte word

-- an id's digits, or `@` and the number of a change
abbrev pub target_text : MeantFile → List ℕ
target_text (Named id) = id_text id
target_text (AddedBy n) = codes "@" ++ decimal n

-- an id of 32 bytes, or a number of 64 bits, as each target has
abbrev pub IsTarget : MeantFile → Type 0
IsTarget (Named id) = IsDigest id
IsTarget (AddedBy n) = IsNumber n
