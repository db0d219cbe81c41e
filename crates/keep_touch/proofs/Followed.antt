-- In each list the mentions but for the last stay followed.
use Rattle.std.proofs.Common.{◌≡◌, ℕ, ◌+◌, ◌-◌, ◌≤◌, ◌<◌, ◌==◌, Bool, true, false, ◌||◌, cond, inl, inr, List, [], ◌∷◌, ◌++◌, length, get_or, replicate, Result, Ok, Err, OnOk, OnErr, refl, sym, ap, subst, ◌∙◌, arith}
use Rattle.std.specs.List.{All}
use Rattle.std.specs.Option.{option_map_or}
use Rattle.std.specs.Prelude.{slice_get}
use Rattle.std.proofs.lemmas.Bool.{cases_lt, eq-eqb, or_left, or_right}
use Rattle.std.proofs.lemmas.List.{append-nil, get_or-take, length-take}
use Rattle.std.proofs.lemmas.List.Elements.{All-take, All-weaker}
use Rattle.std.proofs.lemmas.Option.{slice_get-get_or}
use Rattle.keep_repo.specs.Facet.{facet_eq}
use Rattle.keep_repo.specs.declared.facet.Facet.{Facet}
use Rattle.keep_repo.proofs.Orders.{facet_eq_same}
use Rattle.keep_touch.specs.Followed.{is_of_last, without_last}
use Rattle.keep_touch.specs.Noting.{times}
use Rattle.keep_touch.specs.declared.mention.Mention.{Mention}
use Rattle.keep_touch.proofs.Counting.{without_end, without_more}

-- the changes of these mentions pass the test
abbrev pub AllPass : (ℕ → Bool) → List Mention → Type 0
AllPass f ms = All (λ m. f m.number ≡ true) ms

-- in each list all mentions but the last do
abbrev pub AllButLastPass : (ℕ → Bool) → (Facet → List Mention) → Type 0
AllButLastPass f lists = (q : Facet) → AllPass f (without_last 1 (lists q))

-- with the change of the last all pass
all_pass : (f g : ℕ → Bool) (ms : List Mention) → AllPass f (without_last 1 ms) → ((n : ℕ) → g n ≡ (is_of_last ms n || f n)) → AllPass g ms
all_pass f g ms all with_last k d within = with_last n ∙ elim (cases_lt (k + 1) (length ms)) [
  | inl before ↦ or_right (is_of_last ms n) (f n) (passed before)
  | inr after ↦ or_left (is_of_last ms n) (f n) (last after)
]
  where
    n : ℕ
    n = (get_or ms k d).number

    passed : k + 1 < length ms → f n ≡ true
    passed before =
        ap (λ (m : Mention). f m.number) (sym (get_or-take (length ms - 1) ms k d (omega arith)))
        ∙ all k d (omega (arith, length-take (length ms - 1) ms))

    last : length ms ≤ k + 1 → is_of_last ms n ≡ true
    last after =
        let at : length ms - 1 ≡ k = omega arith in
        ap (λ i. option_map_or (λ (m : Mention). m.number == n) (slice_get ms i) false) at
        ∙ ap (λ o. option_map_or (λ (m : Mention). m.number == n) o false) (slice_get-get_or ms k d within)
        ∙ eq-eqb n n refl

module _ (f g : ℕ → Bool) (old new : Facet → List Mention) (passed : AllButLastPass f old) where
  -- the lists are the same
  pub passed_same : ((n : ℕ) → f n ≡ true → g n ≡ true) → ((q : Facet) → new q ≡ old q) → AllButLastPass g new
  passed_same keeps same q = subst (λ ms. AllPass g (without_last 1 ms)) (sym (same q))
      (All-weaker _ _ (λ (m : Mention). keeps m.number) (without_last 1 (old q)) (passed q))

  -- one list has a mention more, and the change of the one before it passes
  pub passed_put : (facet : Facet) (m : Mention) → ((n : ℕ) → g n ≡ (is_of_last (old facet) n || f n))
      → ((q : Facet) → new q ≡ old q ++ replicate (times q (facet ∷ [])) m) → AllButLastPass g new
  passed_put facet m with_last put q = one (facet_eq q facet) refl
    where
      longer : (b : Bool) → facet_eq q facet ≡ b → new q ≡ old q ++ replicate (0 + cond b 1 0) m
      longer b is = put q ∙ ap (λ c. old q ++ replicate (0 + cond c 1 0) m) is

      one : (b : Bool) → facet_eq q facet ≡ b → AllPass g (without_last 1 (new q))
      one true is = subst (AllPass g) (sym (ap (without_last 1) (longer true is) ∙ without_end 1 (old q) (m ∷ []) refl))
          (all_pass f g (old q) (passed q) (λ n. with_last n ∙ ap (λ p. is_of_last (old p) n || f n) (sym (facet_eq_same q facet is))))
      one false is = subst (λ ms. AllPass g (without_last 1 ms)) (sym (longer false is ∙ append-nil (old q)))
          (All-weaker _ _ (λ (l : Mention) told. with_last l.number ∙ or_right (is_of_last (old facet) l.number) (f l.number) told) (without_last 1 (old q)) (passed q))

-- one list has a mention less
pub passed_taken : (f : ℕ → Bool) (old new : Facet → List Mention) (facets : List Facet) → AllButLastPass f old
    → ((q : Facet) → new q ≡ without_last (times q facets) (old q)) → AllButLastPass f new
passed_taken f old new facets passed taken q =
    let t = times q facets in
    let shorter : without_last 1 (new q) ≡ without_last t (without_last 1 (old q)) =
    ap (without_last 1) (taken q) ∙ without_more t 1 (old q) ∙ ap (λ n. without_last n (old q)) (omega arith) ∙ sym (without_more 1 t (old q)) in
    subst (AllPass f) (sym shorter) (All-take (λ m. f m.number ≡ true) (length (without_last 1 (old q)) - t) (without_last 1 (old q)) (passed q))

-- what is so after either outcome is so
pub settled : {T E P Q R S : Type 0} (r : Result T E) → OnOk r P → OnOk r Q → OnErr r R → (P → Q → S) → (R → S) → S
settled (Ok x) p q e ok err = ok p q
settled (Err y) p q e ok err = err e
