-- What `parse` reads is the number of a text.
use Rattle.std.proofs.Common.{◌≡◌, ℕ, Bool, true, false, List, Result, Ok, Err, Some, None, sym, ap, refl, arith}
use Rattle.std.specs.Result.{result_ok}
use Rattle.std.specs.Str.Parse.{ParsesUnsigned}
use Rattle.clap.specs.Values.{IsUnsignedIn}
use Rattle.clap.specs.ValueTests.{is_unsigned_in}
use Rattle.clap.specs.declared.builder.value_parser.ValueParser.TheVariants as vp
use Rattle.clap.proofs.ValueTestLemmas.{Accepts-accepts, accepts-Accepts}
use Rattle.keep_words.specs.Read.{number_in}

-- a text whose test fails has no number
none : (text : List ℕ) → (IsUnsignedIn 0 18446744073709551615 text → ⊥) → number_in text ≡ None
none text misses = go (is_unsigned_in 0 18446744073709551615 text) refl
  where
    go : (b : Bool) → is_unsigned_in 0 18446744073709551615 text ≡ b → number_in text ≡ None
    go true e = absurd (misses (accepts-Accepts false (vp.Unsigned 0 18446744073709551615) text e))
    go false e = rw e refl

pub number-parsed : {E : Type 0} (text : List ℕ) (r : Result ℕ E) → ParsesUnsigned 64 10 text r → number_in text ≡ result_ok r
number-parsed {E} text (Ok n) h =
    let fits : IsUnsignedIn 0 18446744073709551615 text = (h.0.0, omega (arith, h.0.1), omega arith, omega (arith, h.0.1)) in
    rw (Accepts-accepts false (vp.Unsigned 0 18446744073709551615) text fits) (ap Some (sym h.1))
number-parsed {E} text (Err e) h = none text (λ fits. h (fits.0, omega (arith, fits.1)))
