-- Spans by their last letter.
use Rattle.std.proofs.Common.{◌≡◌, ◌≢◌, ◌∙◌, ◌+◌, ◌-◌, ◌^◌, ◌<◌, ◌==◌, ℕ, Bool, true, false, List, [], ◌∷◌, ◌++◌, length, suc, take, nat_lt, Option, Some, None, sym, ap, refl, arith}
use Rattle.std.proofs.lemmas.List.{length-append}
use Rattle.std.proofs.lemmas.Option.{get_or_from_slice_get, slice_get-get_or, slice_get_within}
use Rattle.std.proofs.Math.Seq.{get_or-append_seam, take-append_seam, take-length, take-suc}
use Rattle.std.proofs.lemmas.Bool.{lt-ltb, ltb-true, ne_eqb}
use Rattle.std.specs.List.{slice_get}
use Rattle.std.specs.Prelude.{SomeIff, option_and_then}
use Rattle.keep_words.specs.Span.{fitting, seconds_of, span_in, times}

-- a text that ends with a letter
pub ends-with : (text digits : List ℕ) (letter : ℕ) → text ≡ digits ++ letter ∷ [] → span_in text ≡ option_and_then (times digits) (seconds_of letter)
ends-with text digits letter e =
    let more : length (digits ++ letter ∷ []) ≡ length digits + 1 = length-append digits (letter ∷ []) in
    let last : length (digits ++ letter ∷ []) - 1 ≡ length digits = omega (arith, more) in
    let got : slice_get (digits ++ letter ∷ []) (length digits) ≡ Some letter =
    slice_get-get_or (digits ++ letter ∷ []) (length digits) 0 (omega (arith, more)) ∙ ap Some (get_or-append_seam digits letter [] 0) in
    rw (e, last, got, take-append_seam digits (letter ∷ [])) refl

-- a product that is or isn't of 64 bits
pub fits : (product : ℕ) (r : Option ℕ) → SomeIff r (product < 2 ^ 64) product → r ≡ fitting product
fits product (Some x) h = rw (lt-ltb product (2 ^ 64) h.0) (ap Some h.1)
fits product None h = go (nat_lt product (2 ^ 64)) refl
  where
    go : (b : Bool) → nat_lt product (2 ^ 64) ≡ b → None ≡ fitting product
    go true e = absurd (h (ltb-true product (2 ^ 64) e))
    go false e = rw e refl

-- a text that ends with none of the letters
pub ends-otherwise : (text : List ℕ) → ((front : List ℕ) → text ≢ front ++ 115 ∷ []) → ((front : List ℕ) → text ≢ front ++ 109 ∷ [])
    → ((front : List ℕ) → text ≢ front ++ 104 ∷ []) → ((front : List ℕ) → text ≢ front ++ 100 ∷ []) → ((front : List ℕ) → text ≢ front ++ 119 ∷ [])
    → span_in text ≡ None
ends-otherwise text s m h d w = go (slice_get text (length text - 1)) refl
  where
    go : (o : Option ℕ) → slice_get text (length text - 1) ≡ o → span_in text ≡ None
    go None e = rw e refl
    go (Some letter) e =
        let front = take (length text - 1) text in
        let inside : length text - 1 < length text = slice_get_within text (length text - 1) letter e in
        let next : length text ≡ suc (length text - 1) = omega (arith, inside) in
        let whole : text ≡ front ++ letter ∷ [] =
        sym (take-length text) ∙ ap (λ (k : ℕ). take k text) next ∙ take-suc text (length text - 1) 0 inside
        ∙ ap (λ (x : ℕ). front ++ x ∷ []) (get_or_from_slice_get text (length text - 1) letter 0 e) in
        let other : (x : ℕ) → ((f : List ℕ) → text ≢ f ++ x ∷ []) → (letter == x) ≡ false =
        λ x ends. ne_eqb letter x (λ same. ends front (whole ∙ ap (λ (y : ℕ). front ++ y ∷ []) same)) in
        rw (e, other 115 s, other 109 m, other 104 h, other 100 d, other 119 w) refl
