-- The table of digits' values, and bytes that are read from pairs of digits.
use Rattle.std.proofs.Common.{◌≡◌, ◌≢◌, ℕ, zero, suc, ◌+◌, ◌*◌, ◌/◌, ◌%◌, ◌<◌, ◌≤◌, ◌↔◌, Bool, true, false, cond, List, [], ◌∷◌, ◌++◌, length, take, drop, slice_index, slice_set, refl, sym, ap, subst, ◌∙◌, arith}
use Rattle.std.proofs.lemmas.List.{append_assoc, append-nil, drop_all, take_all, take_more, take_more_set}
use Rattle.std.specs.List.{AllPass}
use Rattle.hex.specs.Hex.{IsBytes, encode_lower, encode_with, lower_digits}
use Rattle.hex.proofs.HexLemmas.{length-encode_with}
use Rattle.keep_names.proofs.HexText.{AllPass-encode_lower, IsBytes-append, IsBytes-cons, digit_value, digit_value-small, lower_digits-digit_value}
use Rattle.keep_names.specs.Id.{is_lower_hex_digit}

-- ---- the table

-- the value of a lower case digit, and 255 of another byte
abbrev pub value_or_none : ℕ → ℕ
value_or_none c = cond (is_lower_hex_digit c) (digit_value c) 255

-- what f gives at n places from k on
abbrev pub listed : (ℕ → ℕ) → ℕ → ℕ → List ℕ
listed f k zero = []
listed f k (suc n) = f k ∷ listed f (k + 1) n

listed-at : (f : ℕ → ℕ) (k n i : ℕ) → i < n → slice_index (listed f k n) i ≡ f (k + i)
listed-at f k zero i lt = absurd (omega arith)
listed-at f k (suc n) zero lt =
    let here : k ≡ k + 0 = omega arith in
    ap f here
listed-at f k (suc n) (suc i) lt =
    let on : k + 1 + i ≡ k + suc i = omega arith in
    listed-at f (k + 1) n i (omega arith) ∙ ap f on

-- the values of all bytes
abbrev pub digits_table : List ℕ
digits_table = listed value_or_none 0 256

table_value : (c : ℕ) → c < 256 → slice_index digits_table c ≡ value_or_none c
table_value c lt =
    let here : 0 + c ≡ c = omega arith in
    listed-at value_or_none 0 256 c lt ∙ ap value_or_none here

-- a value of 255 or below 16 tells which test made it
told : (b : Bool) (x v : ℕ) → v ≡ cond b x 255 → (b ≡ true → x < 16) → v < 16 ↔ b ≡ true
told true x v e h =
    let same : v ≡ x = e in
    let small : x < 16 = h refl in
    (λ _. refl, λ _. omega (arith, same, small))
told false x v e h =
    let same : v ≡ 255 = e in
    (λ l. absurd (omega (arith, same, l)), λ t. cc t)

chosen : (b : Bool) (x v : ℕ) → v ≡ cond b x 255 → b ≡ true → v ≡ x
chosen true x v e t = e
chosen false x v e t = cc t

-- a byte has a value below 16 just where it is a lower case digit
pub table-tells : (c : ℕ) → c < 256 → slice_index digits_table c < 16 ↔ is_lower_hex_digit c ≡ true
table-tells c lt = told (is_lower_hex_digit c) (digit_value c) _ (table_value c lt) (digit_value-small c)

-- and it is the digit of that value
pub table-stands : (c : ℕ) → c < 256 → slice_index digits_table c < 16 → slice_index lower_digits (slice_index digits_table c) ≡ c
table-stands c lt small =
    let lower = (table-tells c lt).0 small in
    let same = chosen (is_lower_hex_digit c) (digit_value c) _ (table_value c lt) lower in
    ap (slice_index lower_digits) same ∙ lower_digits-digit_value c lower

-- ---- pairs

-- the byte of two digits
pub encode_lower-pair : (h l a b : ℕ) → h < 16 → l < 16 → slice_index lower_digits h ≡ a → slice_index lower_digits l ≡ b
    → encode_lower ((h * 16 + l) ∷ []) ≡ a ∷ b ∷ []
unfolding encode_with
encode_lower-pair h l a b hh hl ea eb =
    let high : (h * 16 + l) / 16 ≡ h = omega arith in
    let low : (h * 16 + l) % 16 ≡ l = omega arith in
    rw (high, low, ea, eb) refl

encode_lower-append : (xs ys : List ℕ) → encode_lower (xs ++ ys) ≡ encode_lower xs ++ encode_lower ys
unfolding encode_with
encode_lower-append [] ys = refl
encode_lower-append (x ∷ xs) ys =
    ap (λ (rest : List ℕ). slice_index lower_digits (x / 16) ∷ slice_index lower_digits (x % 16) ∷ rest) (encode_lower-append xs ys)

take-pair : (s : List ℕ) (i : ℕ) → 2 * i + 1 < length s
    → take (2 * (i + 1)) s ≡ take (2 * i) s ++ (slice_index s (2 * i) ∷ slice_index s (2 * i + 1) ∷ [])
take-pair s i fits =
    let two : 2 * (i + 1) ≡ 2 * i + 1 + 1 = omega arith in
    let first = take_more s (2 * i) 0 (omega arith) in
    let second = take_more s (2 * i + 1) 0 (omega arith) in
    rw (two, second, first) (append_assoc (take (2 * i) s) (slice_index s (2 * i) ∷ []) (slice_index s (2 * i + 1) ∷ []))

-- the first i bytes are those of the first i pairs
abbrev pub AreRead : List ℕ → List ℕ → ℕ → Type 0
AreRead digits bytes i = IsBytes (take i bytes) × (encode_lower (take i bytes) ≡ take (2 * i) digits)

pub pairs_start : (digits bytes : List ℕ) → AreRead digits bytes 0
unfolding encode_with
pairs_start digits bytes =
    let none : IsBytes [] = λ i. omega arith in
    (none, refl)

pub pairs_more : (digits bytes : List ℕ) (i v : ℕ) → i < length bytes → 2 * i + 1 < length digits → v < 256
    → encode_lower (v ∷ []) ≡ slice_index digits (2 * i) ∷ slice_index digits (2 * i + 1) ∷ []
    → AreRead digits bytes i → AreRead digits (slice_set bytes i v) (i + 1)
pairs_more digits bytes i v room fits small pair read =
    let more = take_more_set bytes i v room in
    let none : IsBytes [] = λ k. omega arith in
    let last : IsBytes (v ∷ []) = IsBytes-cons v [] small none in (
      subst IsBytes (sym more) (IsBytes-append (take i bytes) (v ∷ []) read.0 last),
      ap encode_lower more
          ∙ encode_lower-append (take i bytes) (v ∷ [])
          ∙ ap (λ (front : List ℕ). front ++ encode_lower (v ∷ [])) read.1
          ∙ ap (λ (back : List ℕ). take (2 * i) digits ++ back) pair
          ∙ sym (take-pair digits i fits),
    )

pub pairs_done : (digits bytes : List ℕ) (i : ℕ) → length bytes ≤ i → length digits ≤ 2 * i
    → AreRead digits bytes i → IsBytes bytes × (encode_lower bytes ≡ digits)
pairs_done digits bytes i h fits read =
    let all = take_all i bytes h in
    (subst IsBytes all read.0, ap encode_lower (sym all) ∙ read.1 ∙ take_all (2 * i) digits fits)

-- ---- texts

-- the text of bytes has lower case digits alone
pub lower_text : (bytes text : List ℕ) → IsBytes bytes → encode_lower bytes ≡ text → AllPass is_lower_hex_digit text
lower_text bytes text h e = subst (AllPass is_lower_hex_digit) e (AllPass-encode_lower bytes h)

-- and an even number of them
pub no_text-odd : (text : List ℕ) → (length text % 2 ≡ 0 → ⊥) → (bytes : List ℕ) → IsBytes bytes → encode_lower bytes ≢ text
no_text-odd text odd bytes h e =
    let long : length text ≡ 2 * length bytes = ap length (sym e) ∙ length-encode_with lower_digits bytes in
    odd (omega (arith, long))

-- bytes that were written over all of a vector's
pub written_over : (fresh items : List ℕ) (n : ℕ) → length fresh ≡ n → length items ≡ n → take n (fresh ++ drop (length fresh) items) ≡ fresh
written_over fresh items n long same =
    let none = drop_all (length fresh) items (omega (arith, long, same)) in
    ap (λ (back : List ℕ). take n (fresh ++ back)) none
    ∙ ap (take n) (append-nil fresh)
    ∙ take_all n fresh (omega (arith, long))
