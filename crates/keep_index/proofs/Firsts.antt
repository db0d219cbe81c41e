-- The first of each that are one.
use Rattle.std.proofs.Common.{◌≡◌, ℕ, ◌+◌, ◌<◌, Bool, true, false, ◌||◌, not, cond, List, [], ◌∷◌, ◌++◌, filter, take, length, get_or, refl, sym, ap, ◌∙◌}
use Rattle.std.proofs.lemmas.List.{append-nil, take_more}
use Rattle.std.proofs.lemmas.List.Elements.{filter-append}
use Rattle.std.proofs.lemmas.List.Folds.{list_any_more}
use Rattle.std.proofs.lemmas.Map.Views.{any-filter_same}
use Rattle.std.specs.Cmp.{IsEquivalence}
use Rattle.std.specs.List.{AllByRecursion, IsDistinct, list_any}
use Rattle.keep_index.specs.Joining.{first_of_each}

-- ---- what a filter keeps

module _ {X : Type 0} (P : X → Type 0) (test : X → Bool) where
  pub all_left : (xs : List X) → AllByRecursion P xs → AllByRecursion P (filter test xs)
  all_left [] all = tt
  all_left (x ∷ xs) all = cases (test x) (all_left xs all.1) where
    cases : (kept : Bool) → AllByRecursion P (filter test xs) → AllByRecursion P (cond kept (x ∷ filter test xs) (filter test xs))
    cases true rest = (all.0, rest)
    cases false rest = rest

pub all_passed : {X : Type 0} (test : X → Bool) (xs : List X) → AllByRecursion (λ x. test x ≡ true) (filter test xs)
all_passed test [] = tt
all_passed {X} test (x ∷ xs) = cases (test x) refl (all_passed test xs) where
  cases : (kept : Bool) → test x ≡ kept → AllByRecursion (λ (y : X). test y ≡ true) (filter test xs)
      → AllByRecursion (λ (y : X). test y ≡ true) (cond kept (x ∷ filter test xs) (filter test xs))
  cases true is rest = (is, rest)
  cases false is rest = rest

module _ {X : Type 0} (same : X → X → Bool) where
  distinct_left : (test : X → Bool) (xs : List X) → IsDistinct same xs → IsDistinct same (filter test xs)
  unfolding IsDistinct
  distinct_left test [] apart = tt
  distinct_left test (x ∷ xs) apart = cases (test x) (distinct_left test xs apart.1) where
    cases : (kept : Bool) → IsDistinct same (filter test xs) → IsDistinct same (cond kept (x ∷ filter test xs) (filter test xs))
    cases true rest = (all_left (λ y. same x y ≡ false) test xs apart.0, rest)
    cases false rest = rest

  -- what holds of each holds of each first one
  pub all_firsts : (P : X → Type 0) (xs : List X) → AllByRecursion P xs → AllByRecursion P (first_of_each same xs)
  all_firsts P [] all = tt
  all_firsts P (x ∷ xs) all = (all.0, all_left P (λ y. not (same x y)) (first_of_each same xs) (all_firsts P xs all.1))

  others_apart : (x : X) (ys : List X) → AllByRecursion (λ (y : X). not (same x y) ≡ true) ys → AllByRecursion (λ (y : X). same x y ≡ false) ys
  others_apart x [] all = tt
  others_apart x (y ∷ ys) all = (cases (same x y) all.0, others_apart x ys all.1) where
    cases : (b : Bool) → not b ≡ true → b ≡ false
    cases true h = sym h
    cases false h = refl

  -- no two of the first ones are one
  pub firsts_distinct : (xs : List X) → IsDistinct same (first_of_each same xs)
  unfolding IsDistinct
  firsts_distinct [] = tt
  firsts_distinct (x ∷ xs) = (
    others_apart x (filter (λ y. not (same x y)) (first_of_each same xs)) (all_passed (λ y. not (same x y)) (first_of_each same xs)),
    distinct_left (λ y. not (same x y)) (first_of_each same xs) (firsts_distinct xs),
  )

-- ---- where to be one is an equivalence

module _ {X : Type 0} (same : X → X → Bool) (laws : IsEquivalence same) where
  last_once : (x y : X) (any : Bool) → filter (λ z. not (same y z)) (cond any [] (x ∷ [])) ≡ cond (same x y || any) [] (x ∷ [])
  last_once x y true = cases (same x y) where
    cases : (b : Bool) → [] ≡ cond (b || true) [] (x ∷ [])
    cases true = refl
    cases false = refl
  last_once x y false = ap (λ b. cond (not b) (x ∷ []) []) (laws.symm y x) ∙ cases (same x y) where
    cases : (b : Bool) → cond (not b) (x ∷ []) [] ≡ cond (b || false) [] (x ∷ [])
    cases true = refl
    cases false = refl

  -- one more at the end is a first one where none before it is the same
  pub firsts_more : (xs : List X) (x : X) → first_of_each same (xs ++ x ∷ []) ≡ first_of_each same xs ++ cond (list_any (same x) xs) [] (x ∷ [])
  firsts_more [] x = refl
  firsts_more (y ∷ xs) x =
      ap (λ zs. y ∷ filter (λ z. not (same y z)) zs) (firsts_more xs x)
      ∙ ap (λ zs. y ∷ zs) (filter-append (λ z. not (same y z)) (first_of_each same xs) (cond (list_any (same x) xs) [] (x ∷ []))
      ∙ ap (λ zs. filter (λ z. not (same y z)) (first_of_each same xs) ++ zs) (last_once x y (list_any (same x) xs)))

  -- what is among them all is among the first ones
  pub any_firsts : (q : X) (xs : List X) → list_any (same q) (first_of_each same xs) ≡ list_any (same q) xs
  any_firsts q [] = refl
  any_firsts q (x ∷ xs) = cases (any_firsts q xs) (same q x) refl where
    stays : same q x ≡ false → (y : X) → same q y ≡ true → not (same x y) ≡ true
    stays other y is = ap not (laws.symm x y ∙ sym (laws.congr q y x is) ∙ other)

    cases : list_any (same q) (first_of_each same xs) ≡ list_any (same q) xs → (b : Bool) → same q x ≡ b
        → (b || list_any (same q) (filter (λ y. not (same x y)) (first_of_each same xs))) ≡ (b || list_any (same q) xs)
    cases rest true is = refl
    cases rest false other = any-filter_same (same q) (λ y. not (same x y)) true (stays other) (first_of_each same xs) ∙ rest

  -- ---- a loop that keeps them has taken one more

  or_turn : (k a : Bool) → cond k true a ≡ (a || k)
  or_turn true true = refl
  or_turn true false = refl
  or_turn false true = refl
  or_turn false false = refl

  module _ (xs : List X) (i : ℕ) (x : X) (lt : i < length xs) (is : x ≡ get_or xs i x) where
    pub seen_taken : (q : X) (seen now : Bool) → seen ≡ list_any (same q) (take i xs) → now ≡ cond (same x q) true seen → now ≡ list_any (same q) (take (i + 1) xs)
    seen_taken q seen now so step =
        step ∙ ap (λ b. cond (same x q) true b) so ∙ ap (λ b. cond b true (list_any (same q) (take i xs))) (laws.symm x q)
        ∙ or_turn (same q x) (list_any (same q) (take i xs))
        ∙ ap (λ (y : X). list_any (same q) (take i xs) || same q y) is
        ∙ sym (list_any_more (same q) xs i x lt)

    turned : (b : Bool) → cond (not b) (x ∷ []) [] ≡ cond b [] (x ∷ [])
    turned true = refl
    turned false = refl

    firsts_taken : (new seen : Bool) (firsts : List X) → new ≡ not seen → seen ≡ list_any (same x) (take i xs) → firsts ≡ first_of_each same (take i xs)
        → firsts ++ cond new (x ∷ []) [] ≡ first_of_each same (take (i + 1) xs)
    firsts_taken new seen firsts is_new was so =
        ap (λ (ys : List X). ys ++ cond new (x ∷ []) []) so
        ∙ ap (λ b. first_of_each same (take i xs) ++ cond b (x ∷ []) []) (is_new ∙ ap not was)
        ∙ ap (λ (ys : List X). first_of_each same (take i xs) ++ ys) (turned (list_any (same x) (take i xs)))
        ∙ sym (firsts_more (take i xs) x)
        ∙ ap (λ (y : X). first_of_each same (take i xs ++ y ∷ [])) is
        ∙ ap (first_of_each same) (sym (take_more xs i x lt))

    module _ (new seen : Bool) (firsts : List X) (is_new : new ≡ not seen) (was : seen ≡ list_any (same x) (take i xs))
        (so : firsts ≡ first_of_each same (take i xs)) where
      pub firsts_new : (pushed now : List X) → new ≡ true → pushed ≡ firsts ++ x ∷ [] → now ≡ pushed → now ≡ first_of_each same (take (i + 1) xs)
      firsts_new pushed now is_first step at_last =
          at_last ∙ step ∙ ap (λ b. firsts ++ cond b (x ∷ []) []) (sym is_first) ∙ firsts_taken new seen firsts is_new was so

      pub firsts_same : (now : List X) → new ≡ false → now ≡ firsts → now ≡ first_of_each same (take (i + 1) xs)
      firsts_same now is_again stays =
          stays ∙ sym (append-nil firsts) ∙ ap (λ b. firsts ++ cond b (x ∷ []) []) (sym is_again) ∙ firsts_taken new seen firsts is_new was so
