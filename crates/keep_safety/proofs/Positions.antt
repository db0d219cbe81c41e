-- What is at a position of a list, and what holds of two lists.
use Rattle.std.proofs.Common.{◌≡◌, ℕ, zero, suc, Bool, true, false, ◌||◌, List, [], ◌∷◌, ◌++◌, map, Some, refl, ap, subst, ◌∙◌}
use Rattle.std.proofs.lemmas.Bool.{or_left, or_right}
use Rattle.std.proofs.lemmas.List.Folds.{list_any-append}
use Rattle.std.specs.List.{AllByRecursion, flat_map, list_any, slice_get}

-- an element of the list that passes the test, and where it is
pub record Found {X : Type 0} (test : X → Bool) (xs : List X) : Type 0 where
  pub position : ℕ
  pub item : X
  pub here : slice_get xs position ≡ Some item
  pub passes : test item ≡ true

module _ {X : Type 0} where
  -- where a test finds one, there is one that passes
  pub found : (test : X → Bool) (xs : List X) → list_any test xs ≡ true → Found test xs
  found test [] h = cc h
  found test (x ∷ xs) h = cases (found test xs) (test x) refl h where
    cases : (list_any test xs ≡ true → Found test xs) → (b : Bool) → test x ≡ b → (b || list_any test xs) ≡ true → Found test (x ∷ xs)
    cases later true is _ = record { position = zero; item = x; here = refl; passes = is }
    cases later false is rest = behind (later rest) where
      behind : Found test xs → Found test (x ∷ xs)
      behind f = record { position = suc f.position; item = f.item; here = f.here; passes = f.passes }

  -- what holds of each element holds of the one at a position
  pub one_at : (P : X → Type 0) (xs : List X) (k : ℕ) (x : X) → AllByRecursion P xs → slice_get xs k ≡ Some x → P x
  one_at P [] k x all here = cc here
  one_at P (y ∷ ys) zero x all here =
      let same : y ≡ x = cc here in
      subst P same all.0
  one_at P (y ∷ ys) (suc k) x all here = one_at P ys k x all.1 here

  -- what is made of the element is among what is made of all
  pub any_mapped : {Y : Type 0} (test : Y → Bool) (f : X → Y) (xs : List X) (k : ℕ) (x : X) → slice_get xs k ≡ Some x → test (f x) ≡ true → list_any test (map f xs) ≡ true
  any_mapped test f [] k x here is = cc here
  any_mapped test f (y ∷ ys) zero x here is =
      let same : y ≡ x = cc here in
      or_left (test (f y)) (list_any test (map f ys)) (ap (λ z. test (f z)) same ∙ is)
  any_mapped test f (y ∷ ys) (suc k) x here is = or_right (test (f y)) (list_any test (map f ys)) (any_mapped test f ys k x here is)

  -- and what is among the list that is made of it is among all of these
  pub any_joined : {Y : Type 0} (test : Y → Bool) (f : X → List Y) (xs : List X) (k : ℕ) (x : X) → slice_get xs k ≡ Some x → list_any test (f x) ≡ true → list_any test (flat_map f xs) ≡ true
  any_joined test f [] k x here is = cc here
  any_joined test f (y ∷ ys) zero x here is =
      let same : y ≡ x = cc here in
      list_any-append test (f y) (flat_map f ys) ∙ or_left (list_any test (f y)) (list_any test (flat_map f ys)) (ap (λ z. list_any test (f z)) same ∙ is)
  any_joined test f (y ∷ ys) (suc k) x here is =
      list_any-append test (f y) (flat_map f ys) ∙ or_right (list_any test (f y)) (list_any test (flat_map f ys)) (any_joined test f ys k x here is)

-- what holds of the elements of two lists holds of those of both together
pub both_so : {X : Type 0} (P : X → Type 0) (xs ys : List X) → AllByRecursion P xs → AllByRecursion P ys → AllByRecursion P (xs ++ ys)
both_so P [] ys h g = g
both_so P (x ∷ xs) ys h g = (h.0, both_so P xs ys h.1 g)
