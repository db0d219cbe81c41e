-- What is taken of things in order is in order.
use Rattle.std.proofs.Common.{◌≡◌, Bool, List, [], ◌∷◌, ◌++◌, map, filter, Option, Some, Ordering, Less, ap, sym, subst, refl}
use Rattle.std.specs.List.{AllByRecursion, filter_map}
use Rattle.std.specs.List.Sorted.{IsStrictlySortedBy}
use Rattle.keep_plan.proofs.Rising.{rise_kept, rise_made}

pub none_rise : {K : Type 0} (R : K → K → Ordering) → IsStrictlySortedBy R []
unfolding IsStrictlySortedBy
none_rise R = tt

pub all_append : {X : Type 0} (P : X → Type 0) (xs ys : List X) → AllByRecursion P xs → AllByRecursion P ys → AllByRecursion P (xs ++ ys)
all_append P [] ys front back = back
all_append P (x ∷ xs) ys front back = (front.0, all_append P xs ys front.1 back)

-- two lists, one behind the other, where each of the first is below each of the second
module _ {K : Type 0} (R : K → K → Ordering) where
  pub rise_append : (xs ys : List K) → IsStrictlySortedBy R xs → IsStrictlySortedBy R ys → AllByRecursion (λ x. AllByRecursion (λ y. R x y ≡ Less) ys) xs → IsStrictlySortedBy R (xs ++ ys)
  unfolding IsStrictlySortedBy
  rise_append [] ys front back below = back
  rise_append (x ∷ xs) ys front back below =
      (all_append (λ y. R x y ≡ Less) xs ys front.0 below.0, rise_append xs ys front.1 back below.1)

same_items : {X : Type 0} (xs : List X) → map (λ x. x) xs ≡ xs
same_items [] = refl
same_items {X} (x ∷ xs) = ap (λ (ys : List X). x ∷ ys) (same_items xs)

-- what passes a test
pub rise_left : {K : Type 0} (R : K → K → Ordering) (p : K → Bool) (xs : List K) → IsStrictlySortedBy R xs → IsStrictlySortedBy R (filter p xs)
rise_left {K} R p xs h =
    subst (λ (ys : List K). IsStrictlySortedBy R ys) (same_items (filter p xs))
    (rise_kept R (λ x. x) p xs (subst (λ (ys : List K). IsStrictlySortedBy R ys) (sym (same_items xs)) h))

-- and what is made of each, which keeps it as its key
pub rise_keyed : {K Y : Type 0} (R : K → K → Ordering) (other : Y → K) (h : K → Option Y) → ((x : K) (y : Y) → h x ≡ Some y → other y ≡ x)
    → (xs : List K) → IsStrictlySortedBy R xs → IsStrictlySortedBy R (map other (filter_map h xs))
rise_keyed {K} R other h same xs g =
    rise_made R (λ x. x) other h same xs (subst (λ (ys : List K). IsStrictlySortedBy R ys) (sym (same_items xs)) g)
