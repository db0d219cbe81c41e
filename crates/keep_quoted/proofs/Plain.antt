-- A plain name is quoted as itself.
use Rattle.std.proofs.Common.{◌≡◌, ℕ, ◌==◌, ◌||◌, not, Bool, true, false, cond, List, [], ◌∷◌, ◌++◌, Option, None, Some, option_map, unwrap_or, refl, sym, ap, ◌∙◌, subst, arith}
use Rattle.std.proofs.lemmas.Bool.{and_parts}
use Rattle.std.proofs.lemmas.Bool.Decides.{nat_tests}
use Rattle.std.proofs.lemmas.List.Concat.{flat_map-cons}
use Rattle.std.proofs.lemmas.Str.{encodes-chars}
use Rattle.std.specs.Char.{encode_utf8}
use Rattle.std.specs.List.{flat_map, list_all}
use Rattle.std.specs.Str.{IsUtf8, chars, encode_utf8_all}
use Rattle.ucd_category.proofs.Computing.{ucd_category}
use Rattle.keep_quoted.specs.Quote.{escape, is_plain, is_printable, letter_for, number_escape, quoted}
use Rattle.keep_quoted.proofs.Chunks.{quoted-text}

-- the characters that have a name, but for the quote and the backslash, aren't printed
unprinted : list_all (λ c. not (is_printable c)) (7 ∷ 8 ∷ 12 ∷ 10 ∷ 13 ∷ 9 ∷ 11 ∷ []) ≡ true
unfolding ucd_category
unprinted = refl

differs : (a c : ℕ) → (a ≡ c → ⊥) → (a == c) ≡ false
differs a c h = grind (arith, nat_tests)

apart_from : (a c : ℕ) → not (is_printable a) ≡ true → is_printable c ≡ true → (a == c) ≡ false
apart_from a c out printed = differs a c (λ is. let e : is_printable a ≡ true = subst (λ x. is_printable x ≡ true) (sym is) printed in no (is_printable a) e out)
  where
    no : (b : Bool) → b ≡ true → not b ≡ true → ⊥
    no true e f = cc
    no false e f = cc

neither : (a b : Bool) → not (a || b) ≡ true → (a ≡ false) × (b ≡ false)
neither true b e = cc
neither false true e = cc
neither false false e = (refl, refl)

swapped : (a c : ℕ) → (c == a) ≡ false → (a == c) ≡ false
swapped a c e = grind (arith, nat_tests)

plain_unnamed : (c : ℕ) → is_printable c ≡ true → not ((c == 34) || (c == 92)) ≡ true → letter_for c ≡ None
plain_unnamed c printed other =
    let two = neither (c == 34) (c == 92) other in
    let p7 = and_parts (not (is_printable 7)) _ unprinted in
    let p8 = and_parts (not (is_printable 8)) _ p7.1 in
    let p12 = and_parts (not (is_printable 12)) _ p8.1 in
    let p10 = and_parts (not (is_printable 10)) _ p12.1 in
    let p13 = and_parts (not (is_printable 13)) _ p10.1 in
    let p9 = and_parts (not (is_printable 9)) _ p13.1 in
    let p11 = and_parts (not (is_printable 11)) _ p9.1 in
    ap (option_map (λ (name : ℕ × ℕ). name.1))
    (λ i. cond (apart_from 7 c p7.0 printed i) (Some (7, 97)) (cond (apart_from 8 c p8.0 printed i) (Some (8, 98))
    (cond (apart_from 12 c p12.0 printed i) (Some (12, 102)) (cond (apart_from 10 c p10.0 printed i) (Some (10, 110))
    (cond (apart_from 13 c p13.0 printed i) (Some (13, 114)) (cond (apart_from 9 c p9.0 printed i) (Some (9, 116))
    (cond (apart_from 11 c p11.0 printed i) (Some (11, 118)) (cond (swapped 34 c two.0 i) (Some (34, 34))
    (cond (swapped 92 c two.1 i) (Some (92, 92)) None)))))))))

plain_escape : (c : ℕ) → is_plain c ≡ true → escape c ≡ encode_utf8 c
plain_escape c plain =
    let parts = and_parts (is_printable c) (not ((c == 34) || (c == 92))) plain in
    ap (λ (name : Option ℕ). unwrap_or (option_map (λ l. 92 ∷ l ∷ []) name) (cond (is_printable c) (encode_utf8 c) (number_escape c))) (plain_unnamed c parts.0 parts.1)
    ∙ ap (λ (b : Bool). cond b (encode_utf8 c) (number_escape c)) parts.0

plain_escapes : (cs : List ℕ) → list_all is_plain cs ≡ true → flat_map escape cs ≡ encode_utf8_all cs
plain_escapes [] plain = refl
plain_escapes (c ∷ cs) plain =
    let parts = and_parts (is_plain c) (list_all is_plain cs) plain in
    flat_map-cons escape c cs ∙ (λ i. plain_escape c parts.0 i ++ plain_escapes cs parts.1 i)

pub plain_quoted : (name : List ℕ) → IsUtf8 name → list_all is_plain (chars name) ≡ true → quoted name ≡ name
plain_quoted name u plain = quoted-text name u ∙ plain_escapes (chars name) plain ∙ encodes-chars name u
