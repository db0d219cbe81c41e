-- The texts of ids are just those of 64 lower case hex digits, and each names one id.
use Rattle.std.proofs.Common.{◌≡◌, ℕ, ◌*◌, List, [], length, Result, Ok, sym, ap, ◌∙◌, arith}
use Rattle.std.specs.List.{AllPass}
use Rattle.std.specs.Result.{result_unwrap_or}
use Rattle.hex.specs.Hex.{IsBytes, decode_of, decode_sized, encode_lower, lower_digits}
use Rattle.hex.proofs.HexLemmas.{decode_of-encode_lower, decode_of-same, decode_sized-encode_lower, decode_sized-ok, length-encode_with}
use Rattle.hex.specs.declared.error.FromHexError.{FromHexError}
use Rattle.keep_names.specs.Id.{IsDigest, IsIdText, id_text, is_lower_hex_digit}
use Rattle.keep_names.specs.declared.id.Id.{Id}
use Rattle.keep_names.proofs.HexText.{bytes_of_text, AllPass-encode_lower}

-- the text of an id is 64 lower case hex digits
pub IsIdText-id_text : (id : Id) → IsDigest id → IsIdText (id_text id)
IsIdText-id_text id h =
    let size = length-encode_with lower_digits id.0 in
    let whole : length id.0 ≡ 32 = h.0 in
    (omega (arith, size, whole), AllPass-encode_lower id.0 h.1)

-- 64 lower case hex digits are the text of an id
pub id_of_text : (text : List ℕ) → IsIdText text → (id : Id) × IsDigest id × (id_text id ≡ text)
id_of_text text h =
    let size : length text ≡ 64 = h.0 in
    let found = bytes_of_text text (omega arith) h.1 in
    let long = length-encode_with lower_digits found.0 in
    let same = ap length found.1 in
    (record { 0 = found.0 }, (omega (arith, long, same, size), found.2), found.1)

-- ids of one text are one
pub id_text-exact : (a b : Id) → IsDigest a → IsDigest b → id_text a ≡ id_text b → a ≡ b
id_text-exact a b ha hb same =
    ap (λ (bytes : List ℕ). record { 0 = bytes })
    (decode_of-same (id_text b) a.0 b.0 (ap decode_of (sym same) ∙ decode_of-encode_lower a.0 ha.1) (decode_of-encode_lower b.0 hb.1))

-- ---- reading

-- the text of an id decodes to it
pub decode_sized-id_text : (id : Id) (text : List ℕ) → IsDigest id → id_text id ≡ text → decode_sized text 32 ≡ Ok id.0
decode_sized-id_text id text h same = rw (← same) (decode_sized-encode_lower id.0 32 h.0 h.1)

-- lower case digits that decode are the text of what they decode to
pub id_text-decoded : (text bytes : List ℕ) → AllPass is_lower_hex_digit text → decode_sized text 32 ≡ Ok bytes → encode_lower bytes ≡ text
id_text-decoded text bytes lower read =
    let size = decode_sized-ok text 32 bytes read in
    let found = id_of_text text (size, lower) in
    let again = decode_sized-id_text found.0 text found.1 found.2 in
    let same : bytes ≡ found.0.0 = ap (λ (r : Result (List ℕ) FromHexError). result_unwrap_or r []) (sym read ∙ again) in
    ap encode_lower same ∙ found.2

-- the bytes of 64 digits are the id of that text
pub digest-exact : (text digest : List ℕ) → length text ≡ 64 → IsBytes digest → encode_lower digest ≡ text
    → (id : Id) → IsDigest id → id_text id ≡ text → record { 0 = digest } ≡ id
digest-exact text digest size h read id whole e =
    let long : length text ≡ 2 * length digest = ap length (sym read) ∙ length-encode_with lower_digits digest in
    id_text-exact (record { 0 = digest }) id (omega (arith, long, size), h) whole (read ∙ sym e)

-- what `parse_id` rests on
pub ruleset reading = (IsIdText-id_text, digest-exact)
