-- Tails of a list, and what a walk to the next star keeps.
use Rattle.std.proofs.Common.{◌≡◌, ◌≤◌, length, subst, subst₂, arith, Bool, true, false, ◌&&◌, cond, List, [], ◌∷◌, refl, sym, ap, ◌∙◌, ⊎_elim, true≢false}
use Rattle.std.proofs.lemmas.Bool.{or_cases, or_left, or_right}
use Rattle.keep_patterns.specs.Matching.{any_tail, first_and_rest, fits}
use Rattle.keep_patterns.specs.Walks.{IsLeft}

-- two tests that pass together answer alike
pub alike : (a b : Bool) → (a ≡ true → b ≡ true) → (b ≡ true → a ≡ true) → a ≡ b
alike true b f g = sym (f refl)
alike false true f g = g refl
alike false false f g = refl

and_second : (a b : Bool) → (a && b) ≡ true → b ≡ true
and_second true b e = e
and_second false b e = absurd (true≢false (sym e))

-- what is left of both fits as the whole does, and an earlier start gains nothing
pub record Kept {P A : Type 0} (fit : List P → List A → Bool) (pattern : List P) (text : List A) (left : List P) (rest : List A) : Type 0 where
  pub same : fit left rest ≡ fit pattern text
  pub further : any_tail (fit pattern) text ≡ true → any_tail (fit left) rest ≡ true
  pub less : length left ≤ length pattern

module _ {A : Type 0} where
  -- a list is the first of its tails
  pub any_tail_here : (test : List A → Bool) (xs : List A) → test xs ≡ true → any_tail test xs ≡ true
  any_tail_here test [] e = e
  any_tail_here test (x ∷ xs) e = or_left _ _ e

  -- a tail of a tail is a tail
  pub tail_of_tail : (test : List A → Bool) (xs : List A) → any_tail (any_tail test) xs ≡ true → any_tail test xs ≡ true
  tail_of_tail test [] e = e
  tail_of_tail test (x ∷ xs) e = ⊎_elim (λ here. here) (λ later. or_right (test (x ∷ xs)) _ (tail_of_tail test xs later)) (or_cases _ _ e)

module _ {P A : Type 0} (many : P → Bool) (one : P → A → Bool) where
  -- a piece that takes one element
  pub fits_one : (p : P) (ps : List P) (xs : List A) → many p ≡ false → fits many one (p ∷ ps) xs ≡ first_and_rest (one p) (fits many one ps) xs
  fits_one p ps xs e = ap (λ b. cond b (any_tail (fits many one ps) xs) (first_and_rest (one p) (fits many one ps) xs)) e

  pub fits_many : (p : P) (ps : List P) (xs : List A) → many p ≡ true → fits many one (p ∷ ps) xs ≡ any_tail (fits many one ps) xs
  fits_many p ps xs e = ap (λ b. cond b (any_tail (fits many one ps) xs) (first_and_rest (one p) (fits many one ps) xs)) e

  -- where such a piece begins a fit of some tail, what is behind it fits a tail after the first element
  pub behind_first : (p : P) (ps : List P) (x : A) (xs : List A) → many p ≡ false → any_tail (fits many one (p ∷ ps)) (x ∷ xs) ≡ true → any_tail (fits many one ps) xs ≡ true
  behind_first p ps x [] m e =
      ⊎_elim (λ here. and_second _ _ (sym (fits_one p ps (x ∷ []) m) ∙ here))
      (λ later. absurd (true≢false (sym later ∙ fits_one p ps [] m))) (or_cases _ _ e)
  behind_first p ps x (y ∷ ys) m e =
      ⊎_elim (λ here. any_tail_here (fits many one ps) (y ∷ ys) (and_second _ _ (sym (fits_one p ps (x ∷ y ∷ ys) m) ∙ here)))
      (λ later. or_right (fits many one ps (y ∷ ys)) _ (behind_first p ps y ys m later)) (or_cases _ _ e)

  -- at a star, both the fit from here and that of any tail are those of what is behind it
  pub at_star : (pattern : List P) (text : List A) (p : P) (ps : List P) (rest : List A) → many p ≡ true
      → fits many one (p ∷ ps) rest ≡ fits many one pattern text
      → (any_tail (fits many one pattern) text ≡ true → any_tail (fits many one (p ∷ ps)) rest ≡ true)
      → (fits many one pattern text ≡ any_tail (fits many one ps) rest) × (any_tail (fits many one pattern) text ≡ any_tail (fits many one ps) rest)
  at_star pattern text p ps rest m same further =
      (sym same ∙ here, alike _ _ (λ e. deeper rest (further e)) (λ e. any_tail_here (fits many one pattern) text (sym same ∙ here ∙ e)))
    where
      here : fits many one (p ∷ ps) rest ≡ any_tail (fits many one ps) rest
      here = fits_many p ps rest m

      deeper : (xs : List A) → any_tail (fits many one (p ∷ ps)) xs ≡ true → any_tail (fits many one ps) xs ≡ true
      deeper [] e = sym (fits_many p ps [] m) ∙ e
      deeper (x ∷ xs) e =
          ⊎_elim (λ first. sym (fits_many p ps (x ∷ xs) m) ∙ first)
          (λ later. or_right (fits many one ps (x ∷ xs)) _ (deeper xs later)) (or_cases _ _ e)

  -- the walk stops at a star
  pub stops_at : (pattern : List P) (text : List A) (left : List P) (rest : List A) (p : P) (ps : List P) → left ≡ p ∷ ps → many p ≡ true → Kept (fits many one) pattern text left rest
      → (fits many one pattern text ≡ any_tail (fits many one ps) rest) × IsLeft (fits many one) pattern text ps rest
  stops_at pattern text left rest p ps is m kept =
      let here : Kept (fits many one) pattern text (p ∷ ps) rest = subst (λ l. Kept (fits many one) pattern text l rest) is kept in
      let both = at_star pattern text p ps rest m here.same here.further in
      (both.0, (both.1, omega (arith, here.less)))

  -- the walk goes on behind a piece that takes one element
  pub goes_on : (pattern : List P) (text : List A) (left : List P) (rest : List A) (p : P) (ps : List P) (x : A) (xs : List A) → left ≡ p ∷ ps → rest ≡ x ∷ xs
      → many p ≡ false → one p x ≡ true → Kept (fits many one) pattern text left rest → Kept (fits many one) pattern text ps xs
  goes_on pattern text left rest p ps x xs is rest_is m takes kept =
      let here : Kept (fits many one) pattern text (p ∷ ps) (x ∷ xs) = subst₂ (λ l r. Kept (fits many one) pattern text l r) is rest_is kept in
      record {
        same = sym (fits_one p ps (x ∷ xs) m ∙ ap (λ b. b && fits many one ps xs) takes) ∙ here.same;
        further = λ e. behind_first p ps x xs m (here.further e);
        less = omega (arith, here.less);
      }
