-- What `parse` reads is the number of an option, where it is in range.
use Rattle.std.proofs.Common.{◌≡◌, ◌⊎◌, inl, inr, ℕ, Bool, true, false, List, Result, Ok, Err, Option, Some, None, ◌<◌, ◌≤◌, ◌^◌, sym, ap, subst, refl, arith}
use Rattle.std.specs.Str.Parse.{ParsesUnsigned, digits_value, without_leading_plus}
use Rattle.clap.specs.Values.{IsUnsignedIn}
use Rattle.clap.specs.ValueTests.{is_unsigned_in}
use Rattle.clap.specs.declared.builder.value_parser.ValueParser.TheVariants as vp
use Rattle.clap.proofs.ValueTestLemmas.{Accepts-accepts, accepts-Accepts}
use Rattle.std.specs.Prelude.{ok_or}
use Rattle.keep_options.specs.Option.{number_in, number_or}
use Rattle.keep_options.specs.declared.options.BadOptions.TheVariants.{Refused}

value : List ℕ → ℕ
value text = digits_value 10 (without_leading_plus text)

-- a text whose test fails has no number in range
none : (least most : ℕ) (text : List ℕ) → (IsUnsignedIn least most text → ⊥) → number_in least most text ≡ None
none least most text misses = go (is_unsigned_in least most text) refl
  where
    go : (b : Bool) → is_unsigned_in least most text ≡ b → number_in least most text ≡ None
    go true e = absurd (misses (accepts-Accepts false (vp.Unsigned least most) text e))
    go false e = rw e refl

pub number-in : {E : Type 0} (least most n : ℕ) (text : List ℕ) (r : Result ℕ E) → ParsesUnsigned 32 10 text r → r ≡ Ok n → least ≤ n → n ≤ most
    → number_in least most text ≡ Some n
number-in {E} least most n text r h e low high =
    let read = subst (λ (x : Result ℕ E). ParsesUnsigned 32 10 text x) e h in
    let fits : IsUnsignedIn least most text = (read.0.0, omega (arith, read.0.1), omega (arith, read.1, low), omega (arith, read.1, high)) in
    rw (Accepts-accepts false (vp.Unsigned least most) text fits) (ap Some (sym read.1))

pub number-out : {E : Type 0} (least most n : ℕ) (text : List ℕ) (r : Result ℕ E) → ParsesUnsigned 32 10 text r → r ≡ Ok n → (n < least) ⊎ (most < n)
    → number_in least most text ≡ None
number-out {E} least most n text r h e (inl low) =
    let read = subst (λ (x : Result ℕ E). ParsesUnsigned 32 10 text x) e h in
    none least most text (λ fits. absurd (omega (arith, read.1, low, fits.2)))
number-out {E} least most n text r h e (inr high) =
    let read = subst (λ (x : Result ℕ E). ParsesUnsigned 32 10 text x) e h in
    none least most text (λ fits. absurd (omega (arith, read.1, high, fits.3)))

pub number-unread : {E : Type 0} (least most : ℕ) (text : List ℕ) (r : Result ℕ E) (x : E) → most < 2 ^ 32 → ParsesUnsigned 32 10 text r → r ≡ Err x
    → number_in least most text ≡ None
number-unread {E} least most text r x small h e =
    let unread = subst (λ (y : Result ℕ E). ParsesUnsigned 32 10 text y) e h in
    none least most text (λ fits. unread (fits.0, omega (arith, small, fits.3)))

-- the number of an option that is read is in range
pub number-range : (least most usual n : ℕ) (word : Option (List ℕ)) → least ≤ usual → usual ≤ most → Ok n ≡ ok_or (number_or least most usual word) Refused
    → (least ≤ n) × (n ≤ most)
number-range least most usual n None low high e =
    let same : n ≡ usual = cc in
    (omega arith, omega arith)
number-range least most usual n (Some text) low high e = go (is_unsigned_in least most text) refl
  where
    go : (b : Bool) → is_unsigned_in least most text ≡ b → (least ≤ n) × (n ≤ most)
    go true is =
        let fits = accepts-Accepts false (vp.Unsigned least most) text is in
        let given = rw is at e in
        let same : n ≡ digits_value 10 (without_leading_plus text) = cc given in
        (omega (arith, same, fits.2), omega (arith, same, fits.3))
    go false is =
        let refused = rw is at e in
        cc refused
