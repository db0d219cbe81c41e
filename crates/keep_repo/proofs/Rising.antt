-- What rises: the keys of a finite map, and two lists that are joined.
use Rattle.std.proofs.Common.{◌≡◌, Bool, true, false, ◌&&◌, List, [], ◌∷◌, ◌++◌, refl, T, Ordering, Less, Equal, Greater, ◌∙◌}
use Rattle.std.specs.FinMap.{FinMap, IsAntisymmetric, contains_key, contains_key-keys, entries, entries_sorted, is_sorted, keys}
use Rattle.std.specs.BTreeMap.{is_at}
use Rattle.std.specs.Cmp.{IsTotalOrder}
use Rattle.std.specs.FinMap.Entries.{below_all}
use Rattle.std.proofs.lemmas.Map.Lookups.{btree_set_from_contains}
use Rattle.std.specs.List.{AllByRecursion, list_any}
use Rattle.std.specs.List.Sorted.{IsStrictlySortedBy}
use Rattle.std.specs.Map.{keys_of}
use Rattle.std.specs.Ordering.{is_lt}

pub first_of_both : (a b : Bool) → T (a && b) → T a
first_of_both true b h = tt
first_of_both false b h = h

pub second_of_both : (a b : Bool) → T (a && b) → T b
second_of_both true b h = h
second_of_both false b h = absurd h

pub less : (o : Ordering) → T (is_lt o) → o ≡ Less
less Less h = refl
less Equal h = absurd h
less Greater h = absurd h

module _ {K X : Type 0} (R : K → K → Ordering) where
  pub all_above : (k : K) (es : List (K × X)) → T (below_all R k es) → AllByRecursion (λ y. R k y ≡ Less) (keys_of es)
  all_above k [] h = tt
  all_above k (e ∷ es) h = (less (R k e.0) (first_of_both (is_lt (R k e.0)) (below_all R k es) h), all_above k es (second_of_both (is_lt (R k e.0)) (below_all R k es) h))

  keys_rise : (es : List (K × X)) → T (is_sorted R es) → IsStrictlySortedBy R (keys_of es)
  unfolding IsStrictlySortedBy
  keys_rise [] h = tt
  keys_rise (e ∷ es) h = (all_above e.0 es (first_of_both (below_all R e.0 es) (is_sorted R es) h), keys_rise es (second_of_both (below_all R e.0 es) (is_sorted R es) h))

  -- the keys of a map are in order
  pub keys_in_order : (m : FinMap R X) → IsStrictlySortedBy R (keys m)
  keys_in_order m = keys_rise (entries m) (entries_sorted m)

-- what holds of each of both holds of each of them joined
pub all_of_both : {A : Type 0} (P : A → Type 0) (xs ys : List A) → AllByRecursion P xs → AllByRecursion P ys → AllByRecursion P (xs ++ ys)
all_of_both P [] ys first others = others
all_of_both P (x ∷ xs) ys first others = (first.0, all_of_both P xs ys first.1 others)

-- what rises, and then what rises above all of it, rises
pub both_rise : {K : Type 0} (R : K → K → Ordering) (xs ys : List K) → IsStrictlySortedBy R xs → IsStrictlySortedBy R ys → AllByRecursion (λ x. AllByRecursion (λ y. R x y ≡ Less) ys) xs → IsStrictlySortedBy R (xs ++ ys)
unfolding IsStrictlySortedBy
both_rise R [] ys first others above = others
both_rise R (x ∷ xs) ys first others above = (all_of_both (λ y. R x y ≡ Less) xs ys first.0 above.0, both_rise R xs ys first.1 others above.1)

module _ {K X : Type 0} {R : K → K → Ordering} (total : IsTotalOrder R) (exact : IsAntisymmetric R) where
  -- keys that rise, and are those of the map, are all of them
  pub rising_keys : (m : FinMap R X) (ks : List K) → IsStrictlySortedBy R ks → ((q : K) → list_any (is_at (R q)) ks ≡ contains_key m q) → ks ≡ keys m
  rising_keys m ks rises alike =
      btree_set_from_contains total (record { keys = ks }) (record { keys = keys m }) rises (keys_in_order R m)
      (λ q. alike q ∙ contains_key-keys m q)
      exact
