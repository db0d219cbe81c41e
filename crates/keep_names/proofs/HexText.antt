-- The texts of bytes in lower case hex: digits in pairs.
use Rattle.std.proofs.Common.{◌≡◌, ℕ, zero, suc, ◌+◌, ◌*◌, ◌-◌, ◌/◌, ◌%◌, ◌<◌, ◌==◌, Bool, true, false, ◌&&◌, ◌||◌, not, cond, nat_lt, List, [], ◌∷◌, ◌++◌, length, slice_index, inl, inr, refl, arith}
use Rattle.std.proofs.lemmas.Bool.{and_parts, cases_lt, eqb-true}
use Rattle.std.proofs.lemmas.List.Elements.{All-cons, All-head, All-nil, All-tail}
use Rattle.std.specs.List.{AllPass}
use Rattle.hex.specs.Hex.{IsBytes, encode_lower, encode_with, lower_digits}
use Rattle.keep_names.specs.Id.{is_lower_hex_digit}

-- the fact of `AllPass is_lower_hex_digit`
abbrev pub IsLower : ℕ → Type 0
IsLower c = is_lower_hex_digit c ≡ true

-- ---- the table of digits, by trying each place

-- a test that holds below n, as a test that computes
abbrev pub each_below : (ℕ → Bool) → ℕ → Bool
each_below test zero = true
each_below test (suc n) = test n && each_below test n

-- a place below n passed the test
pub each_below-at : (test : ℕ → Bool) (n k : ℕ) → each_below test n ≡ true → k < n → test k ≡ true
each_below-at test zero k h lt = absurd (omega arith)
each_below-at test (suc n) k h lt =
    let parts = and_parts (test n) (each_below test n) h in
    elim (cases_lt k n) [
      | inl below ↦ each_below-at test n k parts.1 below
      | inr top ↦
          let e : k ≡ n = omega arith in
          rw e parts.0
    ]

-- each place of the table has a lower case digit
lower_at : (d : ℕ) → d < 16 → IsLower (slice_index lower_digits d)
lower_at d lt = each_below-at (λ k. is_lower_hex_digit (slice_index lower_digits k)) 16 d refl lt

-- the value of a lower case digit
abbrev pub digit_value : ℕ → ℕ
digit_value c = cond (nat_lt c 97) (c - 48) (c - 87)

-- whether c is no lower case digit, or the table has it at its value
abbrev stands_at_value : ℕ → Bool
stands_at_value c = not (is_lower_hex_digit c) || (slice_index lower_digits (digit_value c) == c)

lower-small : (c : ℕ) → IsLower c → c < 103
lower-small c h = grind (arith)

pub digit_value-small : (c : ℕ) → IsLower c → digit_value c < 16
digit_value-small c h = grind (arith)

-- the second of two tests, where the first fails
or_rest : (a b : Bool) → a ≡ true → (not a || b) ≡ true → b ≡ true
or_rest true b h e = e
or_rest false b h e = cc h

-- a lower case digit stands in the table at its value
pub lower_digits-digit_value : (c : ℕ) → IsLower c → slice_index lower_digits (digit_value c) ≡ c
lower_digits-digit_value c h =
    eqb-true (slice_index lower_digits (digit_value c)) c
    (or_rest (is_lower_hex_digit c) _ h (each_below-at stands_at_value 103 c refl (lower-small c h)))

-- ---- texts

-- a byte in front of bytes
pub IsBytes-cons : (b : ℕ) (rest : List ℕ) → b < 256 → IsBytes rest → IsBytes (b ∷ rest)
IsBytes-cons b rest h hs zero = h
IsBytes-cons b rest h hs (suc i) = hs i

-- bytes after bytes
pub IsBytes-append : (xs ys : List ℕ) → IsBytes xs → IsBytes ys → IsBytes (xs ++ ys)
IsBytes-append [] ys h hs = hs
IsBytes-append (x ∷ xs) ys h hs = IsBytes-cons x (xs ++ ys) (h 0) (IsBytes-append xs ys (λ i. h (suc i)) hs)

-- the text of bytes has lower case digits alone
pub AllPass-encode_lower : (bytes : List ℕ) → IsBytes bytes → AllPass is_lower_hex_digit (encode_lower bytes)
unfolding encode_with
AllPass-encode_lower [] h = All-nil IsLower
AllPass-encode_lower (b ∷ rest) h =
    let fits : b < 256 = h 0 in
    let high = slice_index lower_digits (b / 16) in
    let low = slice_index lower_digits (b % 16) in
    All-cons IsLower high (low ∷ encode_lower rest) (lower_at (b / 16) (omega arith))
    (All-cons IsLower low (encode_lower rest) (lower_at (b % 16) (omega arith)) (AllPass-encode_lower rest (λ i. h (suc i))))

-- lower case digits in pairs are the text of some bytes
pub bytes_of_text : (text : List ℕ) → length text % 2 ≡ 0 → AllPass is_lower_hex_digit text
    → (bytes : List ℕ) × (encode_lower bytes ≡ text) × IsBytes bytes
unfolding encode_with
bytes_of_text [] even h = ([], refl, λ i. omega arith)
bytes_of_text (a ∷ []) even h = absurd (omega arith)
bytes_of_text (a ∷ b ∷ rest) even h =
    let after = All-tail IsLower a (b ∷ rest) h in
    let is_high = All-head IsLower a (b ∷ rest) h in
    let is_low = All-head IsLower b rest after in
    let high = digit_value-small a is_high in
    let low = digit_value-small b is_low in
    let ih = bytes_of_text rest (omega arith) (All-tail IsLower b rest after) in
    let front : (digit_value a * 16 + digit_value b) / 16 ≡ digit_value a = omega arith in
    let back : (digit_value a * 16 + digit_value b) % 16 ≡ digit_value b = omega arith in (
      (digit_value a * 16 + digit_value b) ∷ ih.0,
      rw (front, back, lower_digits-digit_value a is_high, lower_digits-digit_value b is_low, ih.1) refl,
      IsBytes-cons (digit_value a * 16 + digit_value b) ih.0 (omega arith) ih.2,
    )
