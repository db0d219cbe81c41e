-- The quoted text of bytes, piece by piece: the text at their front, the bytes behind it that are none, and the rest.
use Rattle.std.proofs.Common.{◌≡◌, ℕ, zero, suc, ◌+◌, ◌<◌, ◌≤◌, List, [], ◌++◌, length, take, drop, refl, sym, ap, ◌∙◌, append-nil, append_assoc, length-append, arith}
use borrow.Author.Tests.{eq-eqb, ne_eqb}
use mathlib.Core.Logic.{⊎_elim}
use lib.Seq.{take-length, take_at, drop_at}
use Rattle.core.proofs.str.Laws.{order}
use Rattle.core.proofs.str.Lossy.{length-after_first_chunk}
use Rattle.std.proofs.lemmas.Str.{chars-nil, utf8_valid_len_le, utf8_valid_len-IsUtf8}
use Rattle.std.specs.Str.{IsUtf8}
use Rattle.std.specs.Str.Lossy.{after_first_chunk, utf8_invalid_len, utf8_valid_len}
use Rattle.keep_quoted.specs.Quote.{bytes_quoted, quoted, quoted_within, text_quoted}

abbrev pub first_text : List ℕ → List ℕ
first_text bs = text_quoted (take (utf8_valid_len bs) bs)

abbrev pub first_bytes : List ℕ → List ℕ
first_bytes bs = bytes_quoted (take (utf8_invalid_len (drop (utf8_valid_len bs) bs)) (drop (utf8_valid_len bs) bs))

pub within_text : (k : ℕ) (bs : List ℕ) → utf8_valid_len bs ≡ length bs → quoted_within k bs ≡ text_quoted bs
within_text zero bs whole = refl
within_text (suc k) bs whole = rw (eq-eqb _ _ whole)

pub within_fault : (k : ℕ) (bs : List ℕ) → ¬ (utf8_valid_len bs ≡ length bs)
    → quoted_within (suc k) bs ≡ first_text bs ++ (first_bytes bs ++ quoted_within k (after_first_chunk bs))
within_fault k bs faulty = rw (ne_eqb _ _ faulty)

-- any bound from the length up gives the same text
within_any : (k j : ℕ) (bs : List ℕ) → length bs ≤ k → length bs ≤ j → quoted_within k bs ≡ quoted_within j bs
within_any zero j bs p q = let within = utf8_valid_len_le bs in sym (within_text j bs (omega arith))
within_any (suc k) zero bs p q = let within = utf8_valid_len_le bs in within_text (suc k) bs (omega arith)
within_any (suc k) (suc j) bs p q = let within = utf8_valid_len_le bs in ⊎_elim
    (λ short.
    let faulty : ¬ (utf8_valid_len bs ≡ length bs) = omega arith in
    let less = length-after_first_chunk bs faulty in
    within_fault k bs faulty
    ∙ ap (λ t. first_text bs ++ (first_bytes bs ++ t)) (within_any k j _ (omega arith) (omega arith))
    ∙ sym (within_fault j bs faulty))
    (λ whole. within_text (suc k) bs (omega arith) ∙ sym (within_text (suc j) bs (omega arith)))
    (order (utf8_valid_len bs) (length bs))

-- a text is quoted character by character
pub quoted-text : (bs : List ℕ) → IsUtf8 bs → quoted bs ≡ text_quoted bs
unfolding quoted
quoted-text bs u = within_text (length bs) bs (utf8_valid_len-IsUtf8 bs u)

-- other bytes by their first text, the bytes behind it, and the rest
pub quoted_step : (bs : List ℕ) → ¬ (utf8_valid_len bs ≡ length bs)
    → quoted bs ≡ first_text bs ++ (first_bytes bs ++ quoted (after_first_chunk bs))
unfolding quoted
quoted_step bs faulty =
    let less = length-after_first_chunk bs faulty in
    within_any (length bs) (suc (length bs)) bs (omega arith) (omega arith)
    ∙ within_fault (length bs) bs faulty
    ∙ ap (λ t. first_text bs ++ (first_bytes bs ++ t)) (within_any (length bs) (length (after_first_chunk bs)) (after_first_chunk bs) (omega arith) (omega arith))

nil_from_length : (xs : List ℕ) → length xs ≡ 0 → xs ≡ []
nil_from_length xs none = sym (take-length xs) ∙ ap (λ k. take k xs) none

pub text_quoted_empty : (bs : List ℕ) → length bs ≡ 0 → text_quoted bs ≡ []
text_quoted_empty bs none = ap text_quoted (nil_from_length bs none) ∙ rw chars-nil

pub quoted_empty : (bs : List ℕ) → length bs ≡ 0 → quoted bs ≡ []
unfolding quoted
quoted_empty bs none = ap quoted (nil_from_length bs none) ∙ rw chars-nil

-- other bytes by a chunk of `utf8_chunks`, which cuts bs into valid, invalid and rest
some_invalid : (bs valid invalid rest : List ℕ) → bs ≡ valid ++ (invalid ++ rest) → length valid ≡ utf8_valid_len bs
    → length invalid ≡ utf8_invalid_len (drop (utf8_valid_len bs) bs) → 0 < length invalid
    → quoted bs ≡ text_quoted valid ++ (bytes_quoted invalid ++ quoted rest)
some_invalid bs valid invalid rest parts valid_len invalid_len some =
    let n = utf8_valid_len bs in
    let total = ap length parts ∙ length-append valid (invalid ++ rest) in
    let faulty : ¬ (n ≡ length bs) = omega (arith, length-append invalid rest) in
    let front : take n bs ≡ valid = ap (take n) parts ∙ take_at valid _ n valid_len in
    let behind : drop n bs ≡ invalid ++ rest = ap (drop n) parts ∙ drop_at valid _ n valid_len in
    let middle : take (utf8_invalid_len (drop n bs)) (drop n bs) ≡ invalid = ap (take (utf8_invalid_len (drop n bs))) behind ∙ take_at invalid rest (utf8_invalid_len (drop n bs)) invalid_len in
    let both_len : length (valid ++ invalid) ≡ n + utf8_invalid_len (drop n bs) = omega (arith, length-append valid invalid) in
    let back : after_first_chunk bs ≡ rest =
    ap (drop (n + utf8_invalid_len (drop n bs))) (parts ∙ sym (append_assoc valid invalid rest)) ∙ drop_at _ rest _ both_len in
    quoted_step bs faulty ∙ (λ i. text_quoted (front i) ++ (bytes_quoted (middle i) ++ quoted (back i)))

no_invalid : (bs valid invalid rest : List ℕ) → bs ≡ valid ++ (invalid ++ rest) → length valid ≡ utf8_valid_len bs
    → length invalid ≡ 0 → length rest ≡ 0 → quoted bs ≡ text_quoted valid ++ (bytes_quoted invalid ++ quoted rest)
unfolding quoted
no_invalid bs valid invalid rest parts valid_len none no_rest =
    let no_more = nil_from_length rest no_rest in
    let no_bytes = nil_from_length invalid none in
    let whole : bs ≡ valid ++ [] = parts ∙ (λ i. valid ++ (no_bytes i ++ no_more i)) in
    let same : bs ≡ valid = whole ∙ append-nil valid in
    let long = ap length same in
    within_text (length bs) bs (omega arith) ∙ ap text_quoted same
    ∙ sym (append-nil (text_quoted valid))
    ∙ ap (λ t. text_quoted valid ++ t) (sym (λ i. bytes_quoted (no_bytes i) ++ quoted_empty rest no_rest i))

pub quoted_chunk : (bs valid invalid rest : List ℕ) → bs ≡ valid ++ (invalid ++ rest) → length valid ≡ utf8_valid_len bs
    → length invalid ≡ utf8_invalid_len (drop (utf8_valid_len bs) bs) → (length invalid ≡ 0 → length rest ≡ 0)
    → quoted bs ≡ text_quoted valid ++ (bytes_quoted invalid ++ quoted rest)
quoted_chunk bs valid invalid rest parts valid_len invalid_len last = ⊎_elim
    (λ some. some_invalid bs valid invalid rest parts valid_len invalid_len (omega arith))
    (λ none. let zero_len : length invalid ≡ 0 = omega arith in no_invalid bs valid invalid rest parts valid_len zero_len (last zero_len))
    (order 0 (length invalid))
