-- The hex words of lines are just the lower case texts of bytes, and a dash for none.
use Rattle.std.proofs.Common.{◌≡◌, ◌≢◌, ℕ, ◌<◌, List, [], ◌∷◌, length, codes, Result, Ok, Err, Option, Some, None, arith}
use Rattle.std.specs.Prelude.{IfOk}
use Rattle.std.specs.Global.{Vec}
use Rattle.hex.specs.Hex.{IsBytes, encode_lower, encode_with}
use Rattle.keep_names.specs.HexDigit.{Reads}
use Rattle.keep_names.specs.Parses.{NonePrints, Parses}
use Rattle.keep_lines.specs.Word.{AreBytes, hex_text, hex_word}

-- hex that isn't empty is the word for its bytes
hex_text-written : (word bytes : List ℕ) → 0 < length word → encode_lower bytes ≡ word → hex_text bytes ≡ word
unfolding encode_with
hex_text-written [] bytes some e = absurd (omega arith)
hex_text-written (c ∷ word) [] some e = cc e
hex_text-written (c ∷ word) (b ∷ bytes) some e = e

-- a word is no text of bytes where it is neither a dash nor the hex of some
hex_text-other : (word : List ℕ) → codes "-" ≢ word → ((b : ℕ) (bs : List ℕ) → IsBytes (b ∷ bs) → encode_lower (b ∷ bs) ≢ word)
    → (bytes : List ℕ) → IsBytes bytes → hex_text bytes ≢ word
hex_text-other word dash hex [] h e = dash e
hex_text-other word dash hex (b ∷ bs) h e = hex b bs h e

no_hex : (word : List ℕ) → codes "-" ≢ word → ((b : ℕ) (bs : List ℕ) → IsBytes (b ∷ bs) → encode_lower (b ∷ bs) ≢ word) → NonePrints AreBytes hex_word word
no_hex word dash hex = λ (bytes : Vec ℕ) h e. hex_text-other word dash hex bytes.items h e

-- the hex of some bytes isn't the empty word
encode_lower-cons : (b : ℕ) (bs word : List ℕ) → length word ≡ 0 → encode_lower (b ∷ bs) ≢ word
unfolding encode_with
encode_lower-cons b bs [] none e = cc e
encode_lower-cons b bs (c ∷ word) none e = absurd (omega arith)

pub no_hex-empty : (word : List ℕ) → codes "-" ≢ word → length word ≡ 0 → NonePrints AreBytes hex_word word
no_hex-empty word dash none = no_hex word dash (λ b bs h. encode_lower-cons b bs word none)

-- what reads a word's hex parses it
pub word_parsed : {E : Type 0} (word : List ℕ) → codes "-" ≢ word → 0 < length word
    → (read : Result (Option (Vec ℕ)) E) → IfOk read (Reads word) → IfOk read (Parses AreBytes hex_word word)
word_parsed {E} word dash some (Ok (Some bytes)) h = (h.0, hex_text-written word bytes.items some h.1)
word_parsed {E} word dash some (Ok None) h = no_hex word dash (λ b bs. h (b ∷ bs))
word_parsed {E} word dash some (Err e) h = h
