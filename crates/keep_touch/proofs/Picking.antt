-- Tests on the items of a list, one after another, and from its end.
use Rattle.std.proofs.Common.{◌≡◌, Bool, true, false, ◌&&◌, cond, List, [], ◌∷◌, ◌++◌, reverse, Option, Some, None, refl, sym, ap, ◌∙◌}
use Rattle.std.proofs.lemmas.Grind.{reverse_onto}
use Rattle.std.proofs.lemmas.List.{append-nil}
use Rattle.std.proofs.lemmas.List.Elements.{filter-append, filter_map-append}
use Rattle.std.specs.List.{cons_option, filter, filter_map, find, AllByRecursion}

module _ {X : Type 0} where
  pub all_weaker : {P Q : X → Type 0} → ((x : X) → P x → Q x) → (xs : List X) → AllByRecursion P xs → AllByRecursion Q xs
  all_weaker weaker [] all = tt
  all_weaker weaker (x ∷ xs) all = (weaker x all.0, all_weaker weaker xs all.1)

  pub find_agree : (p q : X → Bool) → ((x : X) → p x ≡ q x) → (xs : List X) → find p xs ≡ find q xs
  find_agree p q same xs = λ i. find (λ x. same x i) xs

  -- what is found with two tests is found with one among those that pass the other
  pub find-filter : (w t : X → Bool) (xs : List X) → find (λ x. w x && t x) xs ≡ find w (filter t xs)
  find-filter w t [] = refl
  find-filter w t (x ∷ xs) = one (w x) (t x) refl (find-filter w t xs)
    where
      one : (a b : Bool) → w x ≡ a → find (λ x. w x && t x) xs ≡ find w (filter t xs)
          → cond (a && b) (Some x) (find (λ x. w x && t x) xs) ≡ find w (cond b (x ∷ filter t xs) (filter t xs))
      one true true is rest = rw is refl
      one true false is rest = rest
      one false true is rest = rw is rest
      one false false is rest = rest

  pub filter-filter : (p q : X → Bool) (xs : List X) → filter p (filter q xs) ≡ filter (λ x. q x && p x) xs
  filter-filter p q [] = refl
  filter-filter p q (x ∷ xs) = one (q x) (filter-filter p q xs)
    where
      one : (b : Bool) → filter p (filter q xs) ≡ filter (λ x. q x && p x) xs
          → filter p (cond b (x ∷ filter q xs) (filter q xs)) ≡ cond (b && p x) (x ∷ filter (λ x. q x && p x) xs) (filter (λ x. q x && p x) xs)
      one true rest = ap (λ ys. cond (p x) (x ∷ ys) ys) rest
      one false rest = rest

  reverse_next : (x : X) (xs : List X) → reverse (x ∷ xs) ≡ reverse xs ++ x ∷ []
  reverse_next x xs = reverse_onto xs x []

  pub filter-reverse : (p : X → Bool) (xs : List X) → filter p (reverse xs) ≡ reverse (filter p xs)
  filter-reverse p [] = refl
  filter-reverse p (x ∷ xs) =
      ap (filter p) (reverse_next x xs)
      ∙ filter-append p (reverse xs) (x ∷ [])
      ∙ one (p x) (filter-reverse p xs)
    where
      one : (b : Bool) → filter p (reverse xs) ≡ reverse (filter p xs) → filter p (reverse xs) ++ cond b (x ∷ []) [] ≡ reverse (cond b (x ∷ filter p xs) (filter p xs))
      one true rest = ap (λ ys. ys ++ x ∷ []) rest ∙ sym (reverse_next x (filter p xs))
      one false rest = append-nil (filter p (reverse xs)) ∙ rest

pub filter_map-reverse : {X Y : Type 0} (f : X → Option Y) (xs : List X) → filter_map f (reverse xs) ≡ reverse (filter_map f xs)
filter_map-reverse f [] = refl
filter_map-reverse {Y = Y} f (x ∷ xs) =
    ap (filter_map f) (reverse_next x xs)
    ∙ filter_map-append f (reverse xs) (x ∷ [])
    ∙ one (f x) (filter_map-reverse f xs)
  where
    one : (o : Option Y) → filter_map f (reverse xs) ≡ reverse (filter_map f xs) → filter_map f (reverse xs) ++ cons_option o [] ≡ reverse (cons_option o (filter_map f xs))
    one None rest = append-nil (filter_map f (reverse xs)) ∙ rest
    one (Some y) rest = ap (λ ys. ys ++ y ∷ []) rest ∙ sym (reverse_next y (filter_map f xs))
