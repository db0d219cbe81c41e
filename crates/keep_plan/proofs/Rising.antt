-- What is taken of things in order is in order.
use Rattle.std.proofs.Common.{◌≡◌, Bool, true, false, List, [], ◌∷◌, map, filter, Option, None, Some, Ordering, Less, refl, sym, subst, cond}
use Rattle.std.specs.List.{AllByRecursion, cons_option, filter_map}
use Rattle.std.specs.List.Sorted.{IsStrictlySortedBy}

module _ {K X : Type 0} (R : K → K → Ordering) (key : X → K) (p : X → Bool) where
  above_kept : (k : K) (xs : List X) → AllByRecursion (λ y. R k y ≡ Less) (map key xs) → AllByRecursion (λ y. R k y ≡ Less) (map key (filter p xs))
  above_kept k [] a = tt
  above_kept k (x ∷ xs) a = cases (above_kept k xs a.1) (p x) where
    cases : AllByRecursion (λ y. R k y ≡ Less) (map key (filter p xs)) → (b : Bool) → AllByRecursion (λ y. R k y ≡ Less) (map key (cond b (x ∷ filter p xs) (filter p xs)))
    cases rest true = (a.0, rest)
    cases rest false = rest

  pub rise_kept : (xs : List X) → IsStrictlySortedBy R (map key xs) → IsStrictlySortedBy R (map key (filter p xs))
  unfolding IsStrictlySortedBy
  rise_kept [] h = tt
  rise_kept (x ∷ xs) h = cases (rise_kept xs h.1) (p x) where
    cases : IsStrictlySortedBy R (map key (filter p xs)) → (b : Bool) → IsStrictlySortedBy R (map key (cond b (x ∷ filter p xs) (filter p xs)))
    cases rest true = (above_kept (key x) xs h.0, rest)
    cases rest false = rest

-- where each keeps its key
module _ {K X Y : Type 0} (R : K → K → Ordering) (key : X → K) (other : Y → K) (h : X → Option Y) (same : (x : X) (y : Y) → h x ≡ Some y → other y ≡ key x) where
  above_made : (k : K) (xs : List X) → AllByRecursion (λ y. R k y ≡ Less) (map key xs) → AllByRecursion (λ y. R k y ≡ Less) (map other (filter_map h xs))
  above_made k [] a = tt
  above_made k (x ∷ xs) a = cases (above_made k xs a.1) (h x) refl where
    cases : AllByRecursion (λ y. R k y ≡ Less) (map other (filter_map h xs)) → (o : Option Y) → h x ≡ o → AllByRecursion (λ y. R k y ≡ Less) (map other (cons_option o (filter_map h xs)))
    cases rest None is = rest
    cases rest (Some y) is = (subst (λ (q : K). R k q ≡ Less) (sym (same x y is)) a.0, rest)

  pub rise_made : (xs : List X) → IsStrictlySortedBy R (map key xs) → IsStrictlySortedBy R (map other (filter_map h xs))
  unfolding IsStrictlySortedBy
  rise_made [] g = tt
  rise_made (x ∷ xs) g = cases (rise_made xs g.1) (h x) refl where
    cases : IsStrictlySortedBy R (map other (filter_map h xs)) → (o : Option Y) → h x ≡ o → IsStrictlySortedBy R (map other (cons_option o (filter_map h xs)))
    cases rest None is = rest
    cases rest (Some y) is = (
      subst (λ (q : K). AllByRecursion (λ z. R q z ≡ Less) (map other (filter_map h xs))) (sym (same x y is)) (above_made (key x) xs g.0),
      rest,
    )
