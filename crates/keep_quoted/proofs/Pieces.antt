-- Each piece that is written for a byte or a character reads back as that.
use Rattle.std.proofs.Common.{◌≡◌, ◌⊎◌, inl, inr, ℕ, ◌+◌, ◌*◌, ◌/◌, ◌%◌, ◌<◌, ◌≤◌, ◌==◌, ◌&&◌, ◌||◌, not, nat_lt, Bool, true, false, cond, List, [], ◌∷◌, ◌++◌, length, take, Option, None, Some, option_map, option_and_then, unwrap_or, find, refl, sym, ap, ◌∙◌, subst, append_assoc, length-append, arith}
use lib.Dec.{ltb}
use lib.Seq.{take_at}
use Rattle.std.proofs.Math.Utf8.{next, scalar, scalar_cases, scalars}
use Rattle.std.proofs.lemmas.Bool.{and_parts}
use Rattle.std.proofs.lemmas.Bool.Decides.{nat_tests}
use Rattle.std.proofs.lemmas.List.Concat.{flat_map-cons}
use Rattle.std.proofs.lemmas.Str.{digit_value-digit_char, encode_ascii, encodes-chars, scalars-chars}
use Rattle.std.specs.Char.{digit_char, digit_value, encode_utf8}
use Rattle.std.specs.List.{AllByRecursion, flat_map, list_all}
use Rattle.std.specs.Str.{IsUtf8, chars, encode_utf8_all}
use Rattle.keep_quoted.specs.Quote.{are_bytes, byte_escape, bytes_quoted, escape, hex2, hex4, is_printable, letter_for, names, number_escape, text_quoted}
use Rattle.keep_quoted.specs.Unquote.{byte_piece, front_number, letter_piece, number_in, piece_at, unquoted}
use Rattle.keep_quoted.specs.declared.piece.Meaning.TheVariants.{Byte, Letter}
use Rattle.keep_quoted.proofs.Skipped.{before, before-before, before-nil, one_piece}

-- ---- numbers

-- as many digits as are asked for
front : (count : ℕ) (ds rest : List ℕ) → length ds ≡ count → front_number 16 count (ds ++ rest) ≡ number_in 16 0 ds
front count ds rest many =
    let enough : nat_lt (length (ds ++ rest)) count ≡ false = grind (arith, nat_tests, length-append ds rest) in
    ap (λ (b : Bool). cond b None (number_in 16 0 (take count (ds ++ rest)))) enough ∙ ap (number_in 16 0) (take_at ds rest count many)

one_digit : (value d : ℕ) (ds : List ℕ) → d < 16 → number_in 16 value (digit_char d ∷ ds) ≡ number_in 16 (value * 16 + d) ds
one_digit value d ds small =
    let is : digit_value (digit_char d) ≡ d = digit_value-digit_char d (omega arith) in
    let below : nat_lt d 16 ≡ true = grind (arith, nat_tests) in
    ap (λ (x : ℕ). cond (nat_lt x 16) (number_in 16 (value * 16 + x) ds) None) is
    ∙ ap (λ (b : Bool). cond b (number_in 16 (value * 16 + d) ds) None) below

two_digits : (value n : ℕ) (ds : List ℕ) → n < 256 → number_in 16 value (hex2 n ++ ds) ≡ number_in 16 (value * 256 + n) ds
two_digits value n ds small =
    let same : (value * 16 + n / 16) * 16 + n % 16 ≡ value * 256 + n = omega arith in
    one_digit value (n / 16) (digit_char (n % 16) ∷ ds) (omega arith)
    ∙ one_digit (value * 16 + n / 16) (n % 16) ds (omega arith)
    ∙ ap (λ (x : ℕ). number_in 16 x ds) same

four_digits : (value n : ℕ) (ds : List ℕ) → n < 65536 → number_in 16 value (hex4 n ++ ds) ≡ number_in 16 (value * 65536 + n) ds
four_digits value n ds small =
    let same : (value * 256 + n / 256) * 256 + n % 256 ≡ value * 65536 + n = omega arith in
    two_digits value (n / 256) (hex2 (n % 256) ++ ds) (omega arith)
    ∙ two_digits (value * 256 + n / 256) (n % 256) ds (omega arith)
    ∙ ap (λ (x : ℕ). number_in 16 x ds) same

-- ---- escapes by a number

pub byte_back : (b : ℕ) (rest : List ℕ) → b < 256 → unquoted (byte_escape b ++ rest) ≡ before (b ∷ []) (unquoted rest)
byte_back b rest small =
    let same : 0 * 256 + b ≡ b = omega arith in
    let number : front_number 16 2 (hex2 b ++ rest) ≡ Some b = front 2 (hex2 b) rest refl ∙ two_digits 0 b [] small ∙ ap (λ (x : ℕ). Some x) same in
    let below : nat_lt b 256 ≡ true = grind (arith, nat_tests) in
    let piece : piece_at 92 (120 ∷ hex2 b ++ rest) ≡ Some (Byte b, 3) =
    ap (option_and_then (byte_piece 3)) number ∙ ap (λ (y : Bool). cond y (Some (Byte b, 3)) None) below in
    one_piece 92 (120 ∷ hex2 b ++ rest) (Byte b, 3) piece

short_back : (c : ℕ) (rest : List ℕ) → c < 65536 → scalar c ≡ true → unquoted ((92 ∷ 117 ∷ hex4 c) ++ rest) ≡ before (encode_utf8 c) (unquoted rest)
short_back c rest small ok =
    let same : 0 * 65536 + c ≡ c = omega arith in
    let number : front_number 16 4 (hex4 c ++ rest) ≡ Some c = front 4 (hex4 c) rest refl ∙ four_digits 0 c [] small ∙ ap (λ (x : ℕ). Some x) same in
    let piece : piece_at 92 (117 ∷ hex4 c ++ rest) ≡ Some (Letter c, 5) =
    ap (option_and_then (letter_piece 5)) number ∙ ap (λ (y : Bool). cond y (Some (Letter c, 5)) None) ok in
    one_piece 92 (117 ∷ hex4 c ++ rest) (Letter c, 5) piece

long_back : (c : ℕ) (rest : List ℕ) → c < 4294967296 → scalar c ≡ true
    → unquoted ((92 ∷ 85 ∷ hex4 (c / 65536) ++ hex4 (c % 65536)) ++ rest) ≡ before (encode_utf8 c) (unquoted rest)
long_back c rest small ok =
    let same : (0 * 65536 + c / 65536) * 65536 + c % 65536 ≡ c = omega arith in
    let ds = hex4 (c / 65536) ++ hex4 (c % 65536) in
    let number : front_number 16 8 (ds ++ rest) ≡ Some c =
    front 8 ds rest refl
    ∙ four_digits 0 (c / 65536) (hex4 (c % 65536)) (omega arith)
    ∙ four_digits (0 * 65536 + c / 65536) (c % 65536) [] (omega arith)
    ∙ ap (λ (x : ℕ). Some x) same in
    let piece : piece_at 92 (85 ∷ ds ++ rest) ≡ Some (Letter c, 9) =
    ap (option_and_then (letter_piece 9)) number ∙ ap (λ (y : Bool). cond y (Some (Letter c, 9)) None) ok in
    one_piece 92 (85 ∷ ds ++ rest) (Letter c, 9) piece

long_at : (b : Bool) (c : ℕ) (rest : List ℕ) → nat_lt c 65536 ≡ b → scalar c ≡ true
    → unquoted (cond b (92 ∷ 117 ∷ hex4 c) (92 ∷ 85 ∷ hex4 (c / 65536) ++ hex4 (c % 65536)) ++ rest) ≡ before (encode_utf8 c) (unquoted rest)
long_at true c rest is ok = short_back c rest (grind (arith, nat_tests)) ok
long_at false c rest is ok = long_back c rest (fits c (scalar_cases c ok)) ok
  where
    fits : (c : ℕ) → (c < 55296) ⊎ ((57344 ≤ c) × (c < 1114112)) → c < 4294967296
    fits c (inl h) = omega arith
    fits c (inr h) = omega arith

number_at : (b : Bool) (c : ℕ) (rest : List ℕ) → (nat_lt c 32 || (c == 127)) ≡ b → scalar c ≡ true
    → unquoted (cond b (byte_escape c) (cond (nat_lt c 65536) (92 ∷ 117 ∷ hex4 c) (92 ∷ 85 ∷ hex4 (c / 65536) ++ hex4 (c % 65536))) ++ rest)
    ≡ before (encode_utf8 c) (unquoted rest)
number_at true c rest is ok =
    let small : c < 128 = grind (arith, nat_tests) in
    byte_back c rest (omega arith) ∙ ap (λ bytes. before bytes (unquoted rest)) (sym (encode_ascii c small))
number_at false c rest is ok = long_at (nat_lt c 65536) c rest refl ok

number_back : (c : ℕ) (rest : List ℕ) → scalar c ≡ true → unquoted (number_escape c ++ rest) ≡ before (encode_utf8 c) (unquoted rest)
number_back c rest ok = number_at (nat_lt c 32 || (c == 127)) c rest refl ok

-- ---- bytes that stand for themselves

-- no backslash, no quote and no line end
abbrev pub is_bare : ℕ → Bool
is_bare b = not (b == 92) && not ((b == 34) || (b == 10))

bare_at : (x y : Bool) (b : ℕ) (rest : List ℕ) → (b == 92) ≡ x → ((b == 34) || (b == 10)) ≡ y → (not x && not y) ≡ true
    → piece_at b rest ≡ Some (Byte b, 0)
bare_at true y b rest is other e = cc
bare_at false true b rest is other e = cc
bare_at false false b rest is other e = rw (is, other)

bare_back : (b : ℕ) (rest : List ℕ) → is_bare b ≡ true → unquoted (b ∷ rest) ≡ before (b ∷ []) (unquoted rest)
bare_back b rest bare = one_piece b rest (Byte b, 0) (bare_at (b == 92) ((b == 34) || (b == 10)) b rest refl refl bare)

bares_back : (bs rest : List ℕ) → list_all is_bare bs ≡ true → unquoted (bs ++ rest) ≡ before bs (unquoted rest)
bares_back [] rest bare = sym (before-nil (unquoted rest))
bares_back (b ∷ bs) rest bare =
    let parts = and_parts (is_bare b) (list_all is_bare bs) bare in
    bare_back b (bs ++ rest) parts.0 ∙ ap (before (b ∷ [])) (bares_back bs rest parts.1) ∙ before-before (b ∷ []) bs (unquoted rest)

high_bare : (b : ℕ) → 128 ≤ b → is_bare b ≡ true
high_bare b high = grind (arith, nat_tests)

encode_bare_at : (x y z : Bool) (c : ℕ) → is_bare c ≡ true
    → list_all is_bare (cond x (c ∷ []) (cond y ((192 + c / 64) ∷ next c ∷ []) (cond z ((224 + c / 4096) ∷ next (c / 64) ∷ next c ∷ [])
    ((240 + c / 262144) ∷ next (c / 4096) ∷ next (c / 64) ∷ next c ∷ [])))) ≡ true
encode_bare_at true y z c bare = ap (λ b. b && true) bare
encode_bare_at false true z c bare = λ i. high_bare (192 + c / 64) (omega arith) i && (high_bare (next c) (omega arith) i && true)
encode_bare_at false false true c bare = λ i. high_bare (224 + c / 4096) (omega arith) i && (high_bare (next (c / 64)) (omega arith) i && (high_bare (next c) (omega arith) i && true))
encode_bare_at false false false c bare = λ i. high_bare (240 + c / 262144) (omega arith) i && (high_bare (next (c / 4096)) (omega arith) i && (high_bare (next (c / 64)) (omega arith) i && (high_bare (next c) (omega arith) i && true)))

encode_bare : (c : ℕ) → is_bare c ≡ true → list_all is_bare (encode_utf8 c) ≡ true
unfolding encode_utf8
encode_bare c bare = encode_bare_at (ltb c 128) (ltb c 2048) (ltb c 65536) c bare

-- ---- named characters

equal_at : (a b : ℕ) → (a == b) ≡ true → a ≡ b
equal_at a b e = grind (arith, nat_tests)

found_at : (b : Bool) (row : ℕ × ℕ) (rows : List (ℕ × ℕ)) (c name : ℕ) → (row.0 == c) ≡ b
    → ((rest : List ℕ) → unquoted (escape row.0 ++ rest) ≡ before (encode_utf8 row.0) (unquoted rest))
    → (option_map (λ row. row.1) (find (λ row. row.0 == c) rows) ≡ Some name → (rest : List ℕ) → unquoted (escape c ++ rest) ≡ before (encode_utf8 c) (unquoted rest))
    → option_map (λ row. row.1) (cond b (Some row) (find (λ row. row.0 == c) rows)) ≡ Some name
    → (rest : List ℕ) → unquoted (escape c ++ rest) ≡ before (encode_utf8 c) (unquoted rest)
found_at true row rows c name is here later e =
    let P : ℕ → Type 0 = λ k. (rest : List ℕ) → unquoted (escape k ++ rest) ≡ before (encode_utf8 k) (unquoted rest) in
    subst P (equal_at row.0 c is) here
found_at false row rows c name is here later e = later e

found : (rows : List (ℕ × ℕ)) (c name : ℕ) → AllByRecursion (λ row. (rest : List ℕ) → unquoted (escape row.0 ++ rest) ≡ before (encode_utf8 row.0) (unquoted rest)) rows
    → option_map (λ row. row.1) (find (λ row. row.0 == c) rows) ≡ Some name → (rest : List ℕ) → unquoted (escape c ++ rest) ≡ before (encode_utf8 c) (unquoted rest)
found [] c name all e = cc
found (row ∷ rows) c name all e = found_at (row.0 == c) row rows c name refl all.0 (found rows c name all.1) e

names_back : AllByRecursion (λ row. (rest : List ℕ) → unquoted (escape row.0 ++ rest) ≡ before (encode_utf8 row.0) (unquoted rest)) names
unfolding encode_utf8
names_back =
    (λ rest. refl, (λ rest. refl, (λ rest. refl, (λ rest. refl, (λ rest. refl, (λ rest. refl, (λ rest. refl, (λ rest. refl, (λ rest. refl, tt)))))))))

unnamed_bare : (c : ℕ) → letter_for c ≡ None → is_bare c ≡ true
unnamed_bare c none =
    let not_slash : (c == 92) ≡ false = differs c 92 (λ is. let e = ap letter_for (sym is) ∙ none in cc e) in
    let not_quote : (c == 34) ≡ false = differs c 34 (λ is. let e = ap letter_for (sym is) ∙ none in cc e) in
    let not_end : (c == 10) ≡ false = differs c 10 (λ is. let e = ap letter_for (sym is) ∙ none in cc e) in
    rw (not_slash, not_quote, not_end)
  where
    differs : (a b : ℕ) → (a ≡ b → ⊥) → (a == b) ≡ false
    differs a b h = grind (arith, nat_tests)

-- ---- each character

plain_at : (b : Bool) (c : ℕ) (rest : List ℕ) → is_bare c ≡ true → scalar c ≡ true
    → unquoted (cond b (encode_utf8 c) (number_escape c) ++ rest) ≡ before (encode_utf8 c) (unquoted rest)
plain_at true c rest bare ok = bares_back (encode_utf8 c) rest (encode_bare c bare)
plain_at false c rest bare ok = number_back c rest ok

letter_at : (name : Option ℕ) (c : ℕ) (rest : List ℕ) → letter_for c ≡ name → scalar c ≡ true
    → unquoted (escape c ++ rest) ≡ before (encode_utf8 c) (unquoted rest)
letter_at (Some name) c rest is ok = found names c name names_back is rest
letter_at None c rest is ok =
    ap (λ (name : Option ℕ). unquoted (unwrap_or (option_map (λ l. 92 ∷ l ∷ []) name) (cond (is_printable c) (encode_utf8 c) (number_escape c)) ++ rest)) is
    ∙ plain_at (is_printable c) c rest (unnamed_bare c is) ok

letter_back : (c : ℕ) (rest : List ℕ) → scalar c ≡ true → unquoted (escape c ++ rest) ≡ before (encode_utf8 c) (unquoted rest)
letter_back c rest ok = letter_at (letter_for c) c rest refl ok

letters_back : (cs rest : List ℕ) → scalars cs ≡ true → unquoted (flat_map escape cs ++ rest) ≡ before (encode_utf8_all cs) (unquoted rest)
letters_back [] rest ok = sym (before-nil (unquoted rest))
letters_back (c ∷ cs) rest ok =
    let parts = and_parts (scalar c) (scalars cs) ok in
    ap (λ text. unquoted (text ++ rest)) (flat_map-cons escape c cs)
    ∙ ap unquoted (append_assoc (escape c) (flat_map escape cs) rest)
    ∙ letter_back c (flat_map escape cs ++ rest) parts.0
    ∙ ap (before (encode_utf8 c)) (letters_back cs rest parts.1)
    ∙ before-before (encode_utf8 c) (encode_utf8_all cs) (unquoted rest)

pub text_back : (bs rest : List ℕ) → IsUtf8 bs → unquoted (text_quoted bs ++ rest) ≡ before bs (unquoted rest)
text_back bs rest u = letters_back (chars bs) rest (scalars-chars bs u) ∙ ap (λ bytes. before bytes (unquoted rest)) (encodes-chars bs u)

pub bytes_back : (bs rest : List ℕ) → are_bytes bs ≡ true → unquoted (bytes_quoted bs ++ rest) ≡ before bs (unquoted rest)
bytes_back [] rest ok = sym (before-nil (unquoted rest))
bytes_back (b ∷ bs) rest ok =
    let parts = and_parts (nat_lt b 256) (are_bytes bs) ok in
    let small : b < 256 = grind (arith, nat_tests, parts.0) in
    ap (λ text. unquoted (text ++ rest)) (flat_map-cons byte_escape b bs)
    ∙ ap unquoted (append_assoc (byte_escape b) (bytes_quoted bs) rest)
    ∙ byte_back b (bytes_quoted bs ++ rest) small
    ∙ ap (before (b ∷ [])) (bytes_back bs rest parts.1)
    ∙ before-before (b ∷ []) bs (unquoted rest)
