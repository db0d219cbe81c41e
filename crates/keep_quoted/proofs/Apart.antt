-- What is quoted has neither NUL nor `/`, unless the name has.
use Rattle.std.proofs.Common.{◌≡◌, ℕ, zero, suc, ◌+◌, ◌/◌, ◌%◌, ◌<◌, ◌≤◌, ◌==◌, ◌||◌, nat_lt, Bool, true, false, cond, List, [], ◌∷◌, ◌++◌, length, take, drop, Option, None, Some, option_map, unwrap_or, find, refl, sym, ap, ◌∙◌, arith}
use mathlib.Core.Logic.{⊎_elim}
use Rattle.core.proofs.str.Laws.{order}
use Rattle.core.proofs.str.Lossy.{length-after_first_chunk}
use Rattle.std.proofs.lemmas.Bool.Decides.{nat_tests}
use Rattle.std.proofs.lemmas.List.{take-append-drop}
use Rattle.std.proofs.lemmas.List.Concat.{flat_map-cons}
use Rattle.std.proofs.lemmas.List.Folds.{list_any-append}
use Rattle.std.proofs.lemmas.Str.{encodes-chars, utf8_valid_len_le}
use Rattle.std.specs.Char.{digit_char, encode_utf8}
use Rattle.std.specs.List.{AllByRecursion, flat_map, list_any}
use Rattle.std.specs.Str.{IsUtf8, chars, encode_utf8_all}
use Rattle.std.specs.Str.Lossy.{after_first_chunk, utf8_invalid_len, utf8_valid_len}
use Rattle.keep_quoted.specs.Quote.{byte_escape, bytes_quoted, escape, hex2, hex4, is_never, is_printable, letter_for, names, number_escape, quoted, quoted_within, text_quoted}
use Rattle.keep_quoted.proofs.Chunks.{within_fault, within_text}
use Rattle.keep_quoted.proofs.ReadBack.{front_text, whole_text}

or_parts : (a b : Bool) → (a || b) ≡ false → (a ≡ false) × (b ≡ false)
or_parts true b e = cc
or_parts false b e = (refl, e)

joined : (one other : List ℕ) → list_any is_never one ≡ false → list_any is_never other ≡ false → list_any is_never (one ++ other) ≡ false
joined one other a b = list_any-append is_never one other ∙ (λ i. a i || b i)

parted : (one other : List ℕ) → list_any is_never (one ++ other) ≡ false → (list_any is_never one ≡ false) × (list_any is_never other ≡ false)
parted one other e = or_parts (list_any is_never one) (list_any is_never other) (sym (list_any-append is_never one other) ∙ e)

-- ---- digits

high : (c : ℕ) → 47 < c → is_never c ≡ false
high c h = grind (arith, nat_tests)

digit_at : (b : Bool) (d : ℕ) → is_never (cond b (48 + d) (87 + d)) ≡ false
digit_at true d = high (48 + d) (omega arith)
digit_at false d = high (87 + d) (omega arith)

digit : (d : ℕ) → is_never (digit_char d) ≡ false
digit d = digit_at (nat_lt d 10) d

two : (n : ℕ) → list_any is_never (hex2 n) ≡ false
two n = λ i. digit (n / 16) i || (digit (n % 16) i || false)

four : (n : ℕ) → list_any is_never (hex4 n) ≡ false
four n = joined (hex2 (n / 256)) (hex2 (n % 256)) (two (n / 256)) (two (n % 256))

byte_apart : (b : ℕ) → list_any is_never (byte_escape b) ≡ false
byte_apart b = two b

number_at : (x y : Bool) (c : ℕ) → list_any is_never (cond x (byte_escape c) (cond y (92 ∷ 117 ∷ hex4 c) (92 ∷ 85 ∷ hex4 (c / 65536) ++ hex4 (c % 65536)))) ≡ false
number_at true y c = byte_apart c
number_at false true c = four c
number_at false false c = joined (hex4 (c / 65536)) (hex4 (c % 65536)) (four (c / 65536)) (four (c % 65536))

number_apart : (c : ℕ) → list_any is_never (number_escape c) ≡ false
number_apart c = number_at (nat_lt c 32 || (c == 127)) (nat_lt c 65536) c

-- ---- characters

named_at : (b : Bool) (row : ℕ × ℕ) (rest : Option (ℕ × ℕ)) (name : ℕ) → is_never row.1 ≡ false → (option_map (λ (row : ℕ × ℕ). row.1) rest ≡ Some name → is_never name ≡ false)
    → option_map (λ (row : ℕ × ℕ). row.1) (cond b (Some row) rest) ≡ Some name → is_never name ≡ false
named_at true row rest name here later e = let same : row.1 ≡ name = cc in ap is_never (sym same) ∙ here
named_at false row rest name here later e = later e

named_apart : (rows : List (ℕ × ℕ)) (c name : ℕ) → AllByRecursion (λ row. is_never row.1 ≡ false) rows
    → option_map (λ (row : ℕ × ℕ). row.1) (find (λ row. row.0 == c) rows) ≡ Some name → is_never name ≡ false
named_apart [] c name all e = cc
named_apart (row ∷ rows) c name all e = named_at (row.0 == c) row (find (λ row. row.0 == c) rows) name all.0 (named_apart rows c name all.1) e

printed_at : (b : Bool) (c : ℕ) → list_any is_never (encode_utf8 c) ≡ false → list_any is_never (cond b (encode_utf8 c) (number_escape c)) ≡ false
printed_at true c free = free
printed_at false c free = number_apart c

letter_at : (name : Option ℕ) (c : ℕ) → letter_for c ≡ name → list_any is_never (encode_utf8 c) ≡ false
    → list_any is_never (unwrap_or (option_map (λ l. 92 ∷ l ∷ []) name) (cond (is_printable c) (encode_utf8 c) (number_escape c))) ≡ false
letter_at (Some name) c is free =
    let rows : AllByRecursion (λ (row : ℕ × ℕ). is_never row.1 ≡ false) names = (refl, (refl, (refl, (refl, (refl, (refl, (refl, (refl, (refl, tt))))))))) in
    ap (λ b. b || false) (named_apart names c name rows is)
letter_at None c is free = printed_at (is_printable c) c free

letter_apart : (c : ℕ) → list_any is_never (encode_utf8 c) ≡ false → list_any is_never (escape c) ≡ false
letter_apart c free = letter_at (letter_for c) c refl free

letters_apart : (cs : List ℕ) → list_any is_never (encode_utf8_all cs) ≡ false → list_any is_never (flat_map escape cs) ≡ false
letters_apart [] free = refl
letters_apart (c ∷ cs) free =
    let parts = parted (encode_utf8 c) (encode_utf8_all cs) free in
    ap (list_any is_never) (flat_map-cons escape c cs) ∙ joined (escape c) (flat_map escape cs) (letter_apart c parts.0) (letters_apart cs parts.1)

-- ---- bytes

text_apart : (bs : List ℕ) → IsUtf8 bs → list_any is_never bs ≡ false → list_any is_never (text_quoted bs) ≡ false
text_apart bs u free = letters_apart (chars bs) (ap (list_any is_never) (encodes-chars bs u) ∙ free)

bytes_apart : (bs : List ℕ) → list_any is_never (bytes_quoted bs) ≡ false
bytes_apart [] = refl
bytes_apart (b ∷ bs) = ap (list_any is_never) (flat_map-cons byte_escape b bs) ∙ joined (byte_escape b) (bytes_quoted bs) (byte_apart b) (bytes_apart bs)

split : (n : ℕ) (bs : List ℕ) → list_any is_never bs ≡ false → (list_any is_never (take n bs) ≡ false) × (list_any is_never (drop n bs) ≡ false)
split n bs free = parted (take n bs) (drop n bs) (ap (list_any is_never) (take-append-drop n bs) ∙ free)

within_apart : (k : ℕ) (bs : List ℕ) → length bs ≤ k → list_any is_never bs ≡ false → list_any is_never (quoted_within k bs) ≡ false
within_apart zero bs few free = let within = utf8_valid_len_le bs in text_apart bs (whole_text bs (omega arith)) free
within_apart (suc k) bs few free = ⊎_elim
    (λ short.
    let faulty : ¬ (utf8_valid_len bs ≡ length bs) = omega arith in
    let less = length-after_first_chunk bs faulty in
    let n = utf8_valid_len bs in
    let behind = drop n bs in
    let inv = take (utf8_invalid_len behind) behind in
    let rest = after_first_chunk bs in
    let front_free = (split n bs free).0 in
    let rest_free = (split (n + utf8_invalid_len behind) bs free).1 in
    ap (list_any is_never) (within_fault k bs faulty)
    ∙ joined (text_quoted (take n bs)) (bytes_quoted inv ++ quoted_within k rest) (text_apart (take n bs) (front_text bs) front_free)
    (joined (bytes_quoted inv) (quoted_within k rest) (bytes_apart inv) (within_apart k rest (omega arith) rest_free)))
    (λ whole. let within = utf8_valid_len_le bs in let full : utf8_valid_len bs ≡ length bs = omega arith in
    ap (list_any is_never) (within_text (suc k) bs full) ∙ text_apart bs (whole_text bs full) free)
    (order (utf8_valid_len bs) (length bs))

pub name_apart : (bs : List ℕ) → list_any is_never bs ≡ false → list_any is_never (quoted bs) ≡ false
unfolding quoted
name_apart bs free = within_apart (length bs) bs (omega arith) free
