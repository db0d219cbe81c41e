-- The hex of bytes, piece by piece.
use Rattle.std.proofs.Common.{◌≡◌, ℕ, List, [], ◌∷◌, ◌++◌, length, refl, sym, ap, ◌∙◌, append_assoc, append-nil, slice_index, slice_index_or, suc, zero, drop, get_or, take, arith, ◌<◌, ◌≤◌, ◌+◌, ◌*◌, ◌/◌, ◌%◌}
use Rattle.std.proofs.lemmas.List.{nil_from_length, take_more, get_or-take, get_or-drop, drop-drop}
use Rattle.std.specs.Simd.{first_chunks}
use Rattle.hex.specs.Hex.{encode_lower, encode_with, lower_digits}

encode_more : (table piece rest : List ℕ) → encode_with table (piece ++ rest) ≡ encode_with table piece ++ encode_with table rest
unfolding encode_with
encode_more table [] rest = refl
encode_more table (b ∷ piece) rest =
    ap (λ (text : List ℕ). slice_index table (b / 16) ∷ slice_index table (b % 16) ∷ text) (encode_more table piece rest)

-- the digits of a piece, and those of what is left
pub digits_apart : {left : List ℕ} (piece rest : List ℕ) → left ≡ piece ++ rest → encode_lower left ≡ encode_lower piece ++ encode_lower rest
digits_apart piece rest parts = ap encode_lower parts ∙ encode_more lower_digits piece rest

-- nothing has no digits
pub no_digits : (rest : List ℕ) → length rest ≡ 0 → encode_lower rest ≡ []
unfolding encode_with
no_digits rest none = ap encode_lower (nil_from_length rest none)

-- what was written, and the digits of what is left
pub digits_more : (old : List ℕ) {new left : List ℕ} (piece rest : List ℕ) → left ≡ piece ++ rest → new ≡ old ++ encode_lower piece
    → new ++ encode_lower rest ≡ old ++ encode_lower left
digits_more old piece rest parts e =
    ap (λ s. s ++ encode_lower rest) e ∙ append_assoc old (encode_lower piece) (encode_lower rest) ∙ ap (λ s. old ++ s) (sym (digits_apart piece rest parts))

-- nothing is left
pub all_digits : {old new : List ℕ} (rest : List ℕ) → length rest ≡ 0 → new ++ encode_lower rest ≡ old → new ≡ old
all_digits {old} {new} rest none e = sym (append-nil new) ∙ sym (ap (λ s. new ++ s) (no_digits rest none)) ∙ e

-- a pair of the text
pair_at : (k : ℕ) (text : List ℕ) (i : ℕ) → i < k → get_or (first_chunks 2 k text) i [] ≡ take 2 (drop (2 * i) text)
pair_at zero text i less = elim less [ ]
pair_at (suc k) text zero less = refl
pair_at (suc k) text (suc i) less =
    let next : 2 + 2 * i ≡ 2 * suc i = omega arith in
    pair_at k (drop 2 text) i (omega arith) ∙ ap (take 2) (drop-drop (2 * i) 2 text ∙ ap (λ n. drop n text) next)

-- a digit of a pair, in the text
pub digit_at : (k : ℕ) (text : List ℕ) (i j m : ℕ) {pair : List ℕ} → i < k → j < 2 → 2 * i + j ≡ m → pair ≡ get_or (first_chunks 2 k text) i [] → get_or pair j 0 ≡ get_or text m 0
digit_at k text i j m less two at is =
    ap (λ p. get_or p j 0) (is ∙ pair_at k text i less) ∙ get_or-take 2 (drop (2 * i) text) j 0 two ∙ get_or-drop (2 * i) text j 0 ∙ ap (λ n. get_or text n 0) at

-- one byte more, and its two digits in the text
pub byte_more : (text bytes : List ℕ) (i : ℕ) → 2 * length bytes ≤ length text → i < length bytes → take (2 * i) text ≡ encode_lower (take i bytes)
    → slice_index_or text (2 * i) 0 ≡ slice_index lower_digits (slice_index_or bytes i 0 / 16) → slice_index_or text (2 * i + 1) 0 ≡ slice_index lower_digits (slice_index_or bytes i 0 % 16)
    → take (2 * (i + 1)) text ≡ encode_lower (take (i + 1) bytes)
unfolding encode_with
byte_more text bytes i sizes less before high low =
    let one : take (2 * i + 1) text ≡ take (2 * i) text ++ (get_or text (2 * i) 0 ∷ []) = take_more text (2 * i) 0 (omega arith) in
    let two : take (2 * i + 1 + 1) text ≡ take (2 * i + 1) text ++ (get_or text (2 * i + 1) 0 ∷ []) = take_more text (2 * i + 1) 0 (omega arith) in
    let next : 2 * (i + 1) ≡ 2 * i + 1 + 1 = omega arith in
    let b = slice_index_or bytes i 0 in
    ap (λ n. take n text) next ∙ two ∙ ap (λ front. front ++ (get_or text (2 * i + 1) 0 ∷ [])) one
    ∙ append_assoc (take (2 * i) text) (get_or text (2 * i) 0 ∷ []) (get_or text (2 * i + 1) 0 ∷ [])
    ∙ ap (λ front. front ++ (get_or text (2 * i) 0 ∷ get_or text (2 * i + 1) 0 ∷ [])) before
    ∙ ap (λ d. encode_lower (take i bytes) ++ (d ∷ get_or text (2 * i + 1) 0 ∷ [])) high
    ∙ ap (λ d. encode_lower (take i bytes) ++ (slice_index lower_digits (b / 16) ∷ d ∷ [])) low
    ∙ sym (digits_apart (take i bytes) (b ∷ []) (take_more bytes i 0 less))
