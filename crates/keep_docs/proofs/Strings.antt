-- The strings of a JSON text in UTF-8 are UTF-8.
use Rattle.std.proofs.Common.{◌≡◌, ℕ, zero, suc, ◌+◌, ◌<◌, ◌≤◌, ◌==◌, Bool, true, false, cond, ◌&&◌, ◌||◌, not, nat_lt, ◌⊎◌, inl, inr, List, [], ◌∷◌, ◌++◌, length, take, drop, get_or, Option, None, Some, option_and_then, IsUtf8, refl, sym, ap, subst, ◌∙◌, arith}
use Rattle.std.proofs.lemmas.Bool.{and_parts, cases_lt, eqb-true, lt-ltb, ltb-true, ne_eqb}
use Rattle.std.proofs.lemmas.List.{drop_all, drop_at, drop_more, length-append, length-drop}
use Rattle.std.proofs.lemmas.Str.{IsCharBoundary-after_ascii, IsCharBoundary-before_ascii, IsUtf8-append, IsUtf8-drop, IsUtf8-encode, IsUtf8-from_ascii, IsUtf8-nil, IsUtf8-take}
use Rattle.std.specs.Char.{encode_utf8}
use Rattle.json.specs.Text.{after_backslash, after_high, after_u, code_unit, content, is_high_surrogate, is_low_surrogate, plain, prepend, short_escape, surrogate_pair}
use Rattle.std.proofs.lemmas.Option.{none-some}
use Rattle.keep_docs.proofs.Escapes.{Unit16, ascii_one, lone_scalar, pair_scalar, short_small, unit_16}

heads : (x y : ℕ) (xs ys : List ℕ) → x ∷ xs ≡ y ∷ ys → (x ≡ y) × (xs ≡ ys)
heads x y xs ys e = (cc, cc)

-- what follows an ASCII byte of a text is a text
pub behind : (before : List ℕ) (x : ℕ) (xs : List ℕ) → IsUtf8 (before ++ x ∷ xs) → x < 128 → IsUtf8 xs
behind before x xs utf8 ascii =
    let text = before ++ x ∷ xs in
    let i = length before in
    let long : length text ≡ i + suc (length xs) = length-append before (x ∷ xs) in
    let within : i < length text = omega (arith, long) in
    let cut : get_or text i 0 ∷ drop (i + 1) text ≡ x ∷ xs = sym (drop_more text i 0 within) ∙ drop_at before (x ∷ xs) i refl in
    let parts = heads (get_or text i 0) x (drop (i + 1) text) xs cut in
    let small : get_or text i 0 < 128 = omega (arith, parts.0, ascii) in
    subst IsUtf8 parts.1 (IsUtf8-drop text (i + 1) utf8 (IsCharBoundary-after_ascii text i utf8 within small))

-- ---- the content of a string

-- the content of each text of at most n bytes is UTF-8
abbrev IsTextUpTo : ℕ → Type 0
IsTextUpTo n = (xs s : List ℕ) → length xs ≤ n → IsUtf8 xs → content plain xs ≡ Some s → IsUtf8 s

prepended : (front : List ℕ) (o : Option (List ℕ)) (s : List ℕ) → prepend front o ≡ Some s → (t : List ℕ) × (o ≡ Some t) × (front ++ t ≡ s)
prepended front None s e = absurd (none-some s e)
prepended front (Some t) s e = (t, refl, cc)

-- a character, and what follows
then_more : (n : ℕ) → IsTextUpTo n → (front xs t : List ℕ) → IsUtf8 front → length xs ≤ n → IsUtf8 xs → prepend front (content plain xs) ≡ Some t → IsUtf8 t
then_more n up_to front xs t here le utf8 e =
    let parts = prepended front (content plain xs) t e in
    subst IsUtf8 parts.2 (IsUtf8-append front parts.0 here (up_to xs parts.0 le utf8 parts.1))

behind_four : (a b c d u : ℕ) (xs : List ℕ) → Unit16 a b c d u → IsUtf8 (a ∷ b ∷ c ∷ d ∷ xs) → IsUtf8 xs
behind_four a b c d u xs h utf8 =
    behind [] d xs (behind [] c (d ∷ xs) (behind [] b (c ∷ d ∷ xs) (behind [] a (b ∷ c ∷ d ∷ xs) utf8 h.first) h.second) h.third) h.fourth

low_tested : (n : ℕ) → IsTextUpTo n → (h l : ℕ) (xs t : List ℕ) (low : Bool) → is_low_surrogate l ≡ low → is_high_surrogate h ≡ true → length xs ≤ n → IsUtf8 xs
    → cond low (prepend (encode_utf8 (surrogate_pair h l)) (content plain xs)) None ≡ Some t → IsUtf8 t
low_tested n up_to h l xs t true low high le utf8 e =
    then_more n up_to (encode_utf8 (surrogate_pair h l)) xs t (IsUtf8-encode (surrogate_pair h l) (pair_scalar h l high low)) le utf8 e
low_tested n up_to h l xs t false low high le utf8 e = absurd (none-some t e)

low_read : (n : ℕ) → IsTextUpTo n → (h a b c d : ℕ) (xs t : List ℕ) (o : Option ℕ) → code_unit a b c d ≡ o → is_high_surrogate h ≡ true → length xs ≤ n → IsUtf8 (a ∷ b ∷ c ∷ d ∷ xs)
    → option_and_then (λ l. cond (is_low_surrogate l) (prepend (encode_utf8 (surrogate_pair h l)) (content plain xs)) None) o ≡ Some t → IsUtf8 t
low_read n up_to h a b c d xs t None is high le utf8 e = absurd (none-some t e)
low_read n up_to h a b c d xs t (Some l) is high le utf8 e =
    low_tested n up_to h l xs t (is_low_surrogate l) refl high le (behind_four a b c d l xs (unit_16 a b c d l is) utf8) e

pair_begun : (n : ℕ) → IsTextUpTo n → (h s u a b c d : ℕ) (xs t : List ℕ) (both : Bool) → ((s == 92) && (u == 117)) ≡ both → is_high_surrogate h ≡ true → length xs ≤ n
    → IsUtf8 (s ∷ u ∷ a ∷ b ∷ c ∷ d ∷ xs)
    → cond both (option_and_then (λ l. cond (is_low_surrogate l) (prepend (encode_utf8 (surrogate_pair h l)) (content plain xs)) None) (code_unit a b c d)) None ≡ Some t → IsUtf8 t
pair_begun n up_to h s u a b c d xs t true both high le utf8 e =
    let parts = and_parts (s == 92) (u == 117) both in
    let slash : s ≡ 92 = eqb-true s 92 parts.0 in
    let letter : u ≡ 117 = eqb-true u 117 parts.1 in
    let rest = behind [] s (u ∷ a ∷ b ∷ c ∷ d ∷ xs) utf8 (omega arith) in
    low_read n up_to h a b c d xs t (code_unit a b c d) refl high le (behind [] u (a ∷ b ∷ c ∷ d ∷ xs) rest (omega arith)) e
pair_begun n up_to h s u a b c d xs t false both high le utf8 e = absurd (none-some t e)

high_followed : (n : ℕ) → IsTextUpTo n → (h : ℕ) (xs t : List ℕ) → is_high_surrogate h ≡ true → length xs ≤ n → IsUtf8 xs → content (after_high h) xs ≡ Some t → IsUtf8 t
unfolding content
high_followed n up_to h [] t high le utf8 e = absurd (none-some t e)
high_followed n up_to h (s ∷ []) t high le utf8 e = absurd (none-some t e)
high_followed n up_to h (s ∷ u ∷ []) t high le utf8 e = absurd (none-some t e)
high_followed n up_to h (s ∷ u ∷ a ∷ []) t high le utf8 e = absurd (none-some t e)
high_followed n up_to h (s ∷ u ∷ a ∷ b ∷ []) t high le utf8 e = absurd (none-some t e)
high_followed n up_to h (s ∷ u ∷ a ∷ b ∷ c ∷ []) t high le utf8 e = absurd (none-some t e)
high_followed n up_to h (s ∷ u ∷ a ∷ b ∷ c ∷ d ∷ xs) t high le utf8 e =
    pair_begun n up_to h s u a b c d xs t ((s == 92) && (u == 117)) refl high (omega arith) utf8 e

unit_tested : (n : ℕ) → IsTextUpTo n → (u : ℕ) (xs t : List ℕ) (high low : Bool) → is_high_surrogate u ≡ high → is_low_surrogate u ≡ low → u < 65536 → length xs ≤ n → IsUtf8 xs
    → cond high (content (after_high u) xs) (cond low None (prepend (encode_utf8 u) (content plain xs))) ≡ Some t → IsUtf8 t
unit_tested n up_to u xs t true low is_high is_low small le utf8 e = high_followed n up_to u xs t is_high le utf8 e
unit_tested n up_to u xs t false true is_high is_low small le utf8 e = absurd (none-some t e)
unit_tested n up_to u xs t false false is_high is_low small le utf8 e =
    then_more n up_to (encode_utf8 u) xs t (IsUtf8-encode u (lone_scalar u is_high is_low small)) le utf8 e

unit_read : (n : ℕ) → IsTextUpTo n → (a b c d : ℕ) (xs t : List ℕ) (o : Option ℕ) → code_unit a b c d ≡ o → length xs ≤ n → IsUtf8 (a ∷ b ∷ c ∷ d ∷ xs)
    → option_and_then (λ u. cond (is_high_surrogate u) (content (after_high u) xs) (cond (is_low_surrogate u) None (prepend (encode_utf8 u) (content plain xs)))) o ≡ Some t → IsUtf8 t
unit_read n up_to a b c d xs t None is le utf8 e = absurd (none-some t e)
unit_read n up_to a b c d xs t (Some u) is le utf8 e =
    let hex = unit_16 a b c d u is in
    unit_tested n up_to u xs t (is_high_surrogate u) (is_low_surrogate u) refl refl hex.small le (behind_four a b c d u xs hex utf8) e

letter_followed : (n : ℕ) → IsTextUpTo n → (xs t : List ℕ) → length xs ≤ n → IsUtf8 xs → content after_u xs ≡ Some t → IsUtf8 t
unfolding content
letter_followed n up_to [] t le utf8 e = absurd (none-some t e)
letter_followed n up_to (a ∷ []) t le utf8 e = absurd (none-some t e)
letter_followed n up_to (a ∷ b ∷ []) t le utf8 e = absurd (none-some t e)
letter_followed n up_to (a ∷ b ∷ c ∷ []) t le utf8 e = absurd (none-some t e)
letter_followed n up_to (a ∷ b ∷ c ∷ d ∷ xs) t le utf8 e = unit_read n up_to a b c d xs t (code_unit a b c d) refl (omega arith) utf8 e

short_read : (n : ℕ) → IsTextUpTo n → (y : ℕ) (ys t : List ℕ) (o : Option ℕ) → short_escape y ≡ o → length ys ≤ n → IsUtf8 (y ∷ ys)
    → option_and_then (λ c. prepend (c ∷ []) (content plain ys)) o ≡ Some t → IsUtf8 t
short_read n up_to y ys t None is le utf8 e = absurd (none-some t e)
short_read n up_to y ys t (Some c) is le utf8 e =
    let small = short_small y c is in
    then_more n up_to (c ∷ []) ys t (IsUtf8-from_ascii (c ∷ []) (ascii_one c small.1)) le (behind [] y ys utf8 small.0) e

escape_tested : (n : ℕ) → IsTextUpTo n → (y : ℕ) (ys t : List ℕ) (letter : Bool) → (y == 117) ≡ letter → length ys ≤ n → IsUtf8 (y ∷ ys)
    → cond letter (content after_u ys) (option_and_then (λ c. prepend (c ∷ []) (content plain ys)) (short_escape y)) ≡ Some t → IsUtf8 t
escape_tested n up_to y ys t true is le utf8 e =
    let same : y ≡ 117 = eqb-true y 117 is in
    letter_followed n up_to ys t le (behind [] y ys utf8 (omega arith)) e
escape_tested n up_to y ys t false is le utf8 e = short_read n up_to y ys t (short_escape y) refl le utf8 e

backslash_followed : (n : ℕ) → IsTextUpTo n → (ys t : List ℕ) → length ys ≤ n → IsUtf8 ys → content after_backslash ys ≡ Some t → IsUtf8 t
unfolding content
backslash_followed n up_to [] t le utf8 e = absurd (none-some t e)
backslash_followed n up_to (y ∷ ys) t le utf8 e = escape_tested n up_to y ys t (y == 117) refl (omega arith) utf8 e

-- the bytes that stand for themselves, up to a quote, a backslash, a control byte or the end
abbrev is_plain : ℕ → Bool
is_plain x = not ((x == 34) || (x == 92) || nat_lt x 32)

nothing_prepended : (r : Option (List ℕ)) → r ≡ prepend [] r
nothing_prepended None = refl
nothing_prepended (Some s) = refl

prepended_twice : (x : ℕ) (front : List ℕ) (r : Option (List ℕ)) → prepend (x ∷ []) (prepend front r) ≡ prepend (x ∷ front) r
prepended_twice x front None = refl
prepended_twice x front (Some s) = refl

-- how many plain bytes stand at the front
plain_len : List ℕ → ℕ
plain_len [] = 0
plain_len (x ∷ xs) = cond (is_plain x) (suc (plain_len xs)) 0

-- the plain bytes stand for themselves, and what follows them is left
record Split (xs : List ℕ) (p : ℕ) : Type 0 where
  same : content plain xs ≡ prepend (take p xs) (content plain (drop p xs))
  stops : p < length xs → is_plain (get_or xs p 0) ≡ false

one_more : (x : ℕ) (xs : List ℕ) (p : ℕ) (q b c : Bool) → (x == 34) ≡ q → (x == 92) ≡ b → nat_lt x 32 ≡ c → Split xs p → Split (x ∷ xs) (cond (not (q || b || c)) (suc p) 0)
unfolding content
one_more x xs p true b c is_q is_b is_c rest =
    record { same = nothing_prepended _; stops = λ h. let no : is_plain x ≡ false = rw is_q in no }
one_more x xs p false true c is_q is_b is_c rest =
    record { same = nothing_prepended _; stops = λ h. let no : is_plain x ≡ false = rw (is_q, is_b) in no }
one_more x xs p false false true is_q is_b is_c rest =
    record { same = nothing_prepended _; stops = λ h. let no : is_plain x ≡ false = rw (is_q, is_b, is_c) in no }
one_more x xs p false false false is_q is_b is_c rest =
    let here : content plain (x ∷ xs) ≡ prepend (x ∷ []) (content plain xs) = rw (is_q, is_b, is_c) in
    record {
      same = here ∙ ap (prepend (x ∷ [])) rest.same ∙ prepended_twice x (take p xs) (content plain (drop p xs));
      stops = λ h. rest.stops (omega arith);
    }

split : (xs : List ℕ) → Split xs (plain_len xs)
unfolding plain_len
split [] = record { same = nothing_prepended (content plain []); stops = λ h. absurd (omega arith) }
split (x ∷ xs) = one_more x xs (plain_len xs) (x == 34) (x == 92) (nat_lt x 32) refl refl refl (split xs)

-- plain bytes stop at a quote, a backslash or a control byte
stop_at : (a b c : Bool) → not (a || b || c) ≡ false → (a ≡ true) ⊎ ((b ≡ true) ⊎ (c ≡ true))
stop_at true b c e = inl refl
stop_at false true c e = inr (inl refl)
stop_at false false true e = inr (inr refl)
stop_at false false false e = cc

at_quote : (y : ℕ) (ys : List ℕ) → (y == 34) ≡ true → content plain (y ∷ ys) ≡ Some []
unfolding content
at_quote y ys is = rw is

at_backslash : (y : ℕ) (ys : List ℕ) → y ≡ 92 → content plain (y ∷ ys) ≡ content after_backslash ys
unfolding content
at_backslash y ys is = rw is

small_control : (y : ℕ) → y < 32 → ((y == 34) ≡ false) × ((y == 92) ≡ false) × (nat_lt y 32 ≡ true)
small_control y h = (ne_eqb y 34 (λ is. omega arith), ne_eqb y 92 (λ is. omega arith), lt-ltb y 32 h)

at_control : (y : ℕ) (ys : List ℕ) → y < 32 → content plain (y ∷ ys) ≡ None
unfolding content
at_control y ys h = let is = small_control y h in rw (is.0, is.1, is.2)

at_end : content plain [] ≡ None
unfolding content
at_end = refl

-- the plain bytes of a text end where a character does
stopped : (n : ℕ) → IsTextUpTo n → (xs : List ℕ) (p : ℕ) (t : List ℕ) → length xs ≤ suc n → IsUtf8 xs → p < length xs
    → ((get_or xs p 0 == 34) ≡ true) ⊎ (((get_or xs p 0 == 92) ≡ true) ⊎ (nat_lt (get_or xs p 0) 32 ≡ true))
    → content plain (drop p xs) ≡ Some t → IsUtf8 (take p xs) × IsUtf8 t
stopped n up_to xs p t le utf8 within (inl is) e =
    let quote : get_or xs p 0 ≡ 34 = eqb-true (get_or xs p 0) 34 is in
    let small : get_or xs p 0 < 128 = omega arith in
    let end : Some [] ≡ Some t = sym (ap (content plain) (drop_more xs p 0 within) ∙ at_quote (get_or xs p 0) (drop (p + 1) xs) is) ∙ e in
    let same : [] ≡ t = cc in
    (IsUtf8-take xs p utf8 (IsCharBoundary-before_ascii xs p within small), subst IsUtf8 same IsUtf8-nil)
stopped n up_to xs p t le utf8 within (inr (inl is)) e =
    let slash : get_or xs p 0 ≡ 92 = eqb-true (get_or xs p 0) 92 is in
    let small : get_or xs p 0 < 128 = omega arith in
    let rest = IsUtf8-drop xs (p + 1) utf8 (IsCharBoundary-after_ascii xs p utf8 within small) in
    let short : length (drop (p + 1) xs) ≤ n = omega (arith, length-drop (p + 1) xs) in
    let here = ap (content plain) (drop_more xs p 0 within) ∙ at_backslash (get_or xs p 0) (drop (p + 1) xs) slash in (
      IsUtf8-take xs p utf8 (IsCharBoundary-before_ascii xs p within small),
      backslash_followed n up_to (drop (p + 1) xs) t short rest (sym here ∙ e),
    )
stopped n up_to xs p t le utf8 within (inr (inr is)) e =
    let control : get_or xs p 0 < 32 = ltb-true (get_or xs p 0) 32 is in
    let here = ap (content plain) (drop_more xs p 0 within) ∙ at_control (get_or xs p 0) (drop (p + 1) xs) control in
    absurd (none-some t (sym here ∙ e))

run_read : (n : ℕ) → IsTextUpTo n → (xs s : List ℕ) → length xs ≤ suc n → IsUtf8 xs → content plain xs ≡ Some s → IsUtf8 s
run_read n up_to xs s le utf8 e =
    let p = plain_len xs in
    let halves = split xs in
    let parts = prepended (take p xs) (content plain (drop p xs)) s (sym halves.same ∙ e) in
    elim (cases_lt p (length xs)) [
      | inl within ↦ let y = get_or xs p 0 in
          let both = stopped n up_to xs p parts.0 le utf8 within (stop_at (y == 34) (y == 92) (nat_lt y 32) (halves.stops within)) parts.1 in
          subst IsUtf8 parts.2 (IsUtf8-append (take p xs) parts.0 both.0 both.1)
      | inr past ↦ absurd (none-some parts.0 (sym (ap (content plain) (drop_all p xs past) ∙ at_end) ∙ parts.1))
    ]

content_up_to : (n : ℕ) → IsTextUpTo n
content_up_to zero [] s le utf8 e = absurd (none-some s (sym at_end ∙ e))
content_up_to zero (x ∷ xs) s le utf8 e = absurd (omega arith)
content_up_to (suc n) xs s le utf8 e = run_read n (content_up_to n) xs s le utf8 e

-- the content of a string in UTF-8 is UTF-8
pub IsUtf8-content : (xs s : List ℕ) → IsUtf8 xs → content plain xs ≡ Some s → IsUtf8 s
IsUtf8-content xs s utf8 e = content_up_to (length xs) xs s (omega arith) utf8 e
