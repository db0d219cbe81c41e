-- The text of an id.
use Rattle.std.specs.Prelude.{◌≡◌, ℕ, Bool, ◌&&◌, ◌||◌, nat_le, List, length}
use Rattle.std.specs.List.{AllPass}
use Rattle.hex.specs.Hex.{encode_lower, IsBytes}
use Rattle.keep_names.specs.declared.id.Id.{Id}

-- a digest of 32 bytes, as each id is
abbrev pub IsDigest : Id → Type 0
IsDigest id = (length id.0 ≡ 32) × IsBytes id.0

-- its bytes in hex, each as two lower case digits, the high one first
abbrev pub id_text : Id → List ℕ
id_text id = encode_lower id.0

-- whether c is one of `0` to `9` or `a` to `f`
abbrev pub is_lower_hex_digit : ℕ → Bool
is_lower_hex_digit c = (nat_le 48 c && nat_le c 57) || (nat_le 97 c && nat_le c 102)

-- just 64 lower case hex digits
abbrev pub IsIdText : List ℕ → Type 0
IsIdText text = (length text ≡ 64) × AllPass is_lower_hex_digit text
