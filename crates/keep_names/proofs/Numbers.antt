-- Each number has one text, and that lacks a slash.
use Rattle.std.proofs.Common.{◌≡◌, ℕ, inl, inr, List, length, slice_index, Result, Ok, Err, refl, sym, ap, arith}
use Rattle.std.proofs.lemmas.Bool.{cases_lt}
use Rattle.std.proofs.lemmas.Fmt.{decimal-digits_value, decimal_digit, decimal_nonempty, digits_decimal, first_decimal, parse-decimal}
use Rattle.std.proofs.lemmas.Str.Parse.{IsNumeralModel, not_in_digits, numerals_by_value, parse_plain, tells_digits}
use Rattle.std.specs.Fmt.{decimal}
use Rattle.std.specs.Result.{result_ok}
use Rattle.std.specs.Str.Iter.{LacksByte}
use Rattle.std.specs.Str.Parse.{AllDigits, ParsesUnsigned, digits_value}
use Rattle.keep_names.specs.Number.{HasPlainFront, IsNumber}
use Rattle.keep_names.specs.Parses.{Parses}

own : IsNumeralModel (AllDigits 10) (digits_value 10)
own = numerals_by_value (AllDigits 10) tells_digits

pub number_lacks : (n : ℕ) → IsNumber n → LacksByte 47 (decimal n)
number_lacks n small = λ k l. not_in_digits own (decimal n) 47 (digits_decimal own n small) (λ r. omega arith) k l

-- zero in front of a printed number is all of it
zero_alone : (n : ℕ) → IsNumber n → slice_index (decimal n) 0 ≡ 48 → length (decimal n) ≡ 1
zero_alone n small e =
    elim (cases_lt 0 n) [
      | inl above ↦
          let first = first_decimal n above small in
          absurd (omega (arith, first, e))
      | inr low ↦
          let zero_is : n ≡ 0 = omega arith in
          rw zero_is (rw (decimal_digit 0 (omega arith)) refl)
    ]

-- a printed number has a plain front
pub HasPlainFront-decimal : (n : ℕ) (digits : List ℕ) → IsNumber n → decimal n ≡ digits → HasPlainFront digits
HasPlainFront-decimal n digits small e =
    rw (← e) (
      not_in_digits own (decimal n) 43 (digits_decimal own n small) (λ r. omega arith) 0 (decimal_nonempty n small),
      zero_alone n small,
    )

-- what digits of plain front are read as prints as them, and where they aren't read no number does
pub number-parsed : {E : Type 0} (digits : List ℕ) (r : Result ℕ E) → ParsesUnsigned 64 10 digits r → HasPlainFront digits → Parses IsNumber decimal digits (result_ok r)
number-parsed {E} digits (Ok n) h front =
    let read = parse_plain own {E = E} 64 digits (Ok n) h front.0 in
    rw read.1 (read.0.2, decimal-digits_value own digits read.0.0 read.0.1 front.1 read.0.2)
number-parsed {E} digits (Err e) h front = λ n small same. cc (ap result_ok (parse-decimal 64 n digits (Err e) small small (sym same) h))
