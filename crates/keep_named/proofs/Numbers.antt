-- The number that digits write.
use Rattle.std.proofs.Common.{◌≡◌, ℕ, ◌^◌, ◌<◌, ltb, Bool, true, false, ◌&&◌, cond, List, length, Option, None, Some, Result, Ok, Err, refl, sym, ap, ◌∙◌, rules}
use Rattle.std.proofs.lemmas.Bool.Decides.{Decides-ltb}
use Rattle.std.proofs.lemmas.Str.Parse.{IsNumeralModel, numerals_by_value, parse_digits}
use Rattle.std.specs.Char.{is_ascii_digit}
use Rattle.std.specs.List.{list_all}
use Rattle.std.specs.Result.{OkIff, result_ok}
use Rattle.std.specs.Str.Parse.{ParsesUnsigned, digits_value}
use Rattle.keep_named.specs.Meaning.{number_in}

numeral : IsNumeralModel (λ ds. list_all is_ascii_digit ds ≡ true) (digits_value 10)
numeral = numerals_by_value _ (search rules)

both : (a b : Bool) → a ≡ true → b ≡ true → (a && b) ≡ true
both true b h k = k
both false b h k = cc h

not_both : (a b : Bool) → ((a ≡ true) × (b ≡ true) → ⊥) → (a && b) ≡ false
not_both true true h = absurd (h (refl, refl))
not_both true false h = refl
not_both false b h = refl

by_result : {E : Type 0} (ds : List ℕ) (r : Result ℕ E) → list_all is_ascii_digit ds ≡ true → OkIff r ((0 < length ds) × (digits_value 10 ds < 2 ^ 64)) (digits_value 10 ds) → result_ok r ≡ number_in ds
by_result ds (Ok n) digits h =
    let fits : (list_all is_ascii_digit ds && (ltb 0 (length ds) && ltb (digits_value 10 ds) (2 ^ 64))) ≡ true =
    both _ _ digits (both _ _ ((Decides-ltb 0 (length ds)).1 h.0.0) ((Decides-ltb (digits_value 10 ds) (2 ^ 64)).1 h.0.1)) in
    ap Some h.1 ∙ sym (ap (λ b. cond b (Some (digits_value 10 ds)) None) fits)
by_result ds (Err e) digits h =
    let fits : (list_all is_ascii_digit ds && (ltb 0 (length ds) && ltb (digits_value 10 ds) (2 ^ 64))) ≡ false =
    ap (λ b. list_all is_ascii_digit ds && b) (not_both (ltb 0 (length ds)) (ltb (digits_value 10 ds) (2 ^ 64)) (λ p. h ((Decides-ltb 0 (length ds)).0 p.0, (Decides-ltb (digits_value 10 ds) (2 ^ 64)).0 p.1)))
    ∙ ap (λ b. b && false) digits in
    sym (ap (λ b. cond b (Some (digits_value 10 ds)) None) fits)

-- digits are parsed
pub number_parsed : {E : Type 0} (ds : List ℕ) (r : Result ℕ E) → list_all is_ascii_digit ds ≡ true → ParsesUnsigned 64 10 ds r → result_ok r ≡ number_in ds
number_parsed ds r digits parsed = by_result ds r digits (parse_digits numeral 64 ds r parsed digits)
