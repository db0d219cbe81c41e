-- The escapes of a JSON string are of ASCII, and stand for characters.
use Rattle.std.proofs.Common.{◌≡◌, ℕ, zero, suc, ◌+◌, ◌-◌, ◌*◌, ◌<◌, ◌≤◌, ◌==◌, Bool, true, false, cond, ◌&&◌, ◌||◌, nat_lt, nat_le, inl, inr, [], ◌∷◌, None, Some, refl, sym, ap, ◌∙◌, arith}
use Rattle.std.proofs.lemmas.Bool.{and_parts, cases_lt, eqb-true, le-leb, le-ltb, lt-ltb, ltb-true, leb-true}
use Rattle.std.specs.Char.{IsScalar, digit_value, is_digit}
use Rattle.std.specs.Str.{IsAscii}
use Rattle.json.specs.Text.{code_unit, is_high_surrogate, is_low_surrogate, short_escape, surrogate_pair}
use Rattle.std.proofs.lemmas.Option.{cond_some, none-some}

digit_value_large : (c : ℕ) → 128 ≤ c → digit_value c ≡ 36
digit_value_large c h =
    rw (le-ltb c 48 (omega arith), le-ltb c 58 (omega arith), le-ltb c 65 (omega arith), le-ltb c 91 (omega arith), le-ltb c 97 (omega arith), le-ltb c 123 (omega arith))

digit_small : (c : ℕ) → is_digit c 16 ≡ true → c < 128
digit_small c e =
    elim (cases_lt c 128) [
      | inl lt ↦ lt
      | inr le ↦ absurd (let no : false ≡ true = sym (ap (λ v. nat_lt v 16) (digit_value_large c le)) ∙ e in cc)
    ]

-- four hex digits
pub record Unit16 (a b c d u : ℕ) : Type 0 where
  pub first : a < 128
  pub second : b < 128
  pub third : c < 128
  pub fourth : d < 128
  pub small : u < 65536

pub unit_16 : (a b c d u : ℕ) → code_unit a b c d ≡ Some u → Unit16 a b c d u
unfolding code_unit
unit_16 a b c d u e =
    let value = digit_value a * 4096 + digit_value b * 256 + digit_value c * 16 + digit_value d in
    let is = cond_some (is_digit a 16 && is_digit b 16 && is_digit c 16 && is_digit d 16) value u e in
    let three = and_parts (is_digit a 16 && is_digit b 16 && is_digit c 16) (is_digit d 16) is.0 in
    let two = and_parts (is_digit a 16 && is_digit b 16) (is_digit c 16) three.0 in
    let one = and_parts (is_digit a 16) (is_digit b 16) two.0 in
    let x : digit_value a < 16 = ltb-true (digit_value a) 16 one.0 in
    let y : digit_value b < 16 = ltb-true (digit_value b) 16 one.1 in
    let z : digit_value c < 16 = ltb-true (digit_value c) 16 two.1 in
    let w : digit_value d < 16 = ltb-true (digit_value d) 16 three.1 in
    let same : value ≡ u = is.1 in
    record {
      first = digit_small a one.0;
      second = digit_small b one.1;
      third = digit_small c two.1;
      fourth = digit_small d three.1;
      small = below_16 (digit_value a) (digit_value b) (digit_value c) (digit_value d) u x y z w same;
    }
  where
    below_16 : (p q r s u : ℕ) → p < 16 → q < 16 → r < 16 → s < 16 → p * 4096 + q * 256 + r * 16 + s ≡ u → u < 65536
    below_16 p q r s u x y z w same = omega arith

-- a unit that is no surrogate is a character
pub lone_scalar : (u : ℕ) → is_high_surrogate u ≡ false → is_low_surrogate u ≡ false → u < 65536 → IsScalar u
lone_scalar u high low small =
    elim (cases_lt u 55296) [
      | inl lt ↦ rw (lt-ltb u 55296 lt)
      | inr le ↦ elim (cases_lt u 56320) [
        | inl lt ↦ absurd (let no : true ≡ false = (λ j. sym (le-leb 55296 u le) j && sym (lt-ltb u 56320 lt) j) ∙ high in cc)
        | inr more ↦ elim (cases_lt u 57344) [
          | inl lt ↦ absurd (let no : true ≡ false = (λ j. sym (le-leb 56320 u more) j && sym (lt-ltb u 57344 lt) j) ∙ low in cc)
          | inr most ↦ rw (le-ltb u 55296 le, le-leb 57344 u most, lt-ltb u 1114112 (omega arith))
        ]
      ]
    ]

pub pair_scalar : (h l : ℕ) → is_high_surrogate h ≡ true → is_low_surrogate l ≡ true → IsScalar (surrogate_pair h l)
pair_scalar h l high low =
    let a = and_parts (nat_le 55296 h) (nat_lt h 56320) high in
    let b = and_parts (nat_le 56320 l) (nat_lt l 57344) low in
    within (surrogate_pair h l) (bounds h l (leb-true 55296 h a.0) (ltb-true h 56320 a.1) (leb-true 56320 l b.0) (ltb-true l 57344 b.1))
  where
    bounds : (h l : ℕ) → 55296 ≤ h → h < 56320 → 56320 ≤ l → l < 57344 → (57344 ≤ 65536 + (h - 55296) * 1024 + (l - 56320)) × (65536 + (h - 55296) * 1024 + (l - 56320) < 1114112)
    bounds h l p q r s = (omega arith, omega arith)

    within : (c : ℕ) → (57344 ≤ c) × (c < 1114112) → IsScalar c
    within c h = let le : 55296 ≤ c = omega arith in rw (le-ltb c 55296 le, le-leb 57344 c h.0, lt-ltb c 1114112 h.1)

quoted_small : (a b c : Bool) (x : ℕ) → (a ≡ true → x ≡ 34) → (b ≡ true → x ≡ 92) → (c ≡ true → x ≡ 47) → (a || b || c) ≡ true → x < 128
quoted_small true b c x ha hb hc e = let is = ha refl in omega (arith, is)
quoted_small false true c x ha hb hc e = let is = hb refl in omega (arith, is)
quoted_small false false true x ha hb hc e = let is = hc refl in omega (arith, is)
quoted_small false false false x ha hb hc e = cc

short_at : (q b f n r t : Bool) (x c : ℕ) → (q ≡ true → x < 128) → (b ≡ true → x ≡ 98) → (f ≡ true → x ≡ 102) → (n ≡ true → x ≡ 110) → (r ≡ true → x ≡ 114) → (t ≡ true → x ≡ 116)
    → cond q (Some x) (cond b (Some 8) (cond f (Some 12) (cond n (Some 10) (cond r (Some 13) (cond t (Some 9) None))))) ≡ Some c → (x < 128) × (c < 128)
short_at true b f n r t x c hq hb hf hn hr ht e = let same : x ≡ c = cc in let small = hq refl in (small, omega arith)
short_at false true f n r t x c hq hb hf hn hr ht e = let same : 8 ≡ c = cc in let is = hb refl in (omega arith, omega arith)
short_at false false true n r t x c hq hb hf hn hr ht e = let same : 12 ≡ c = cc in let is = hf refl in (omega arith, omega arith)
short_at false false false true r t x c hq hb hf hn hr ht e = let same : 10 ≡ c = cc in let is = hn refl in (omega arith, omega arith)
short_at false false false false true t x c hq hb hf hn hr ht e = let same : 13 ≡ c = cc in let is = hr refl in (omega arith, omega arith)
short_at false false false false false true x c hq hb hf hn hr ht e = let same : 9 ≡ c = cc in let is = ht refl in (omega arith, omega arith)
short_at false false false false false false x c hq hb hf hn hr ht e = absurd (none-some c e)

pub short_small : (x c : ℕ) → short_escape x ≡ Some c → (x < 128) × (c < 128)
unfolding short_escape
short_small x c e =
    short_at ((x == 34) || (x == 92) || (x == 47)) (x == 98) (x == 102) (x == 110) (x == 114) (x == 116) x c
    (quoted_small (x == 34) (x == 92) (x == 47) x (eqb-true x 34) (eqb-true x 92) (eqb-true x 47)) (eqb-true x 98) (eqb-true x 102) (eqb-true x 110) (eqb-true x 114) (eqb-true x 116) e

pub ascii_one : (c : ℕ) → c < 128 → IsAscii (c ∷ [])
ascii_one c h zero = h
ascii_one c h (suc i) = omega arith
