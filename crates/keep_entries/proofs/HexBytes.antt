-- What is found of bytes that are written in hex.
use Rattle.std.proofs.Common.{◌≡◌, ◌≢◌, ℕ, ◌%◌, Bool, true, false, cond, List, Option, None, Some, option_map, refl, sym, ap, ◌∙◌, arith, inl, inr}
use Rattle.std.proofs.lemmas.Bool.{cases_lt}
use Rattle.std.proofs.lemmas.List.Sums.{AllPass-from_list_all, list_all-from_AllPass}
use Rattle.std.specs.Global.{Vec}
use Rattle.std.specs.List.{list_all}
use Rattle.std.specs.Prelude.{length}
use Rattle.std.specs.Result.{result_ok}
use Rattle.hex.specs.Hex.{IsBytes, decode_of, encode_lower}
use Rattle.hex.proofs.HexLemmas.{decode_of-encode_lower, decode_of-odd}
use Rattle.keep_names.specs.HexDigit.{Reads}
use Rattle.keep_names.specs.Id.{is_lower_hex_digit}
use Rattle.keep_names.proofs.HexText.{AllPass-encode_lower}
use Rattle.keep_names.proofs.HexText as hex_text
use Rattle.keep_entries.specs.Shape.{bytes_of_text}

-- bytes are found in their hex
pub bytes_back : (bytes : List ℕ) → IsBytes bytes → bytes_of_text (encode_lower bytes) ≡ Some bytes
bytes_back bytes h =
    let digits = encode_lower bytes in
    let lower = list_all-from_AllPass is_lower_hex_digit digits (AllPass-encode_lower bytes h) in
    ap (λ (b : Bool). cond b (result_ok (decode_of digits)) None) lower
    ∙ ap result_ok (decode_of-encode_lower bytes h)

-- a text that is no bytes' hex gives none
none_found : (text : List ℕ) (lower : Bool) → list_all is_lower_hex_digit text ≡ lower
    → ((bytes : List ℕ) → IsBytes bytes → encode_lower bytes ≢ text)
    → cond lower (result_ok (decode_of text)) None ≡ None
none_found text false is other = refl
none_found text true is other =
    elim (cases_lt (length text % 2) 1) [
      | inl below ↦
          let even : length text % 2 ≡ 0 = omega arith in
          let found = hex_text.bytes_of_text text even (AllPass-from_list_all is_lower_hex_digit text is) in
          absurd (other found.0 found.2 found.1)
      | inr above ↦
          let odd : length text % 2 ≡ 1 = omega arith in
          ap result_ok (decode_of-odd text odd)
    ]

-- what is found in a text
pub found_bytes : (text : List ℕ) (found : Option (Vec ℕ)) → Reads text found
    → option_map (λ (bytes : Vec ℕ). bytes.items) found ≡ bytes_of_text text
found_bytes text (Some bytes) h = sym (bytes_back bytes.items h.0) ∙ ap bytes_of_text h.1
found_bytes text None h = sym (none_found text (list_all is_lower_hex_digit text) refl h)
