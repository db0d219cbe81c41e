-- Finite maps that are made of the entries of an `IndexMap`, which tells keys apart by `==`. That is the `==` which an
-- exact order of the keys gives.
use Rattle.std.proofs.Common.{◌≡◌, ◌+◌, Bool, false, ◌||◌, cond, List, [], ◌∷◌, get_or, length, Option, None, Some, is_some, IsPermutation, Ordering, Less, Equal, Greater, refl, sym, ap, subst, ◌∙◌, arith}
use Rattle.std.proofs.lemmas.List.Sorted.{list_any-IsPermutation}
use Rattle.std.proofs.lemmas.Map.Keys.{IsDistinct-IsPermutation, IsDistinct-head, IsDistinct-tail, apart_from_distinct, sorted_from_all_adjacent}
use Rattle.std.proofs.lemmas.Map.Made.{is_some-lookup}
use Rattle.std.specs.BTreeMap.{is_at}
use Rattle.std.specs.Bool.{Decides}
use Rattle.std.specs.Cmp.{IsEquivalence, IsTotalOrder, eq_by_cmp_equiv}
use Rattle.std.specs.FinMap as finite
use Rattle.std.specs.FinMap.{FinMap, IsAntisymmetric, from_entries, insert, len, len-empty, len-insert, remove, same_map}
use Rattle.std.specs.HashMap.{HashMap, hash_map_eq}
use Rattle.std.specs.HashMap.Eq.{get_from_hash_map_eq, hash_map_eq_from_get}
use Rattle.std.specs.List.{AllByRecursion, IsDistinct, list_any}
use Rattle.std.specs.List.Sorted.{IsSorted, IsStrictlySortedBy}
use Rattle.std.specs.Map.{keys_of, lookup}
use Rattle.std.specs.Option.{option_eq}
use Rattle.std.specs.Ordering.{eq_by_cmp, is_eq, is_lt, ordering_reverse}
use Rattle.keep_repo.proofs.Maps.{get_made, one_put, one_removed}
use Rattle.keep_repo.proofs.Rising.{rising_keys}

module _ {K : Type 0} {R : K → K → Ordering} (total : IsTotalOrder R) {E : K → K → Bool} (same_as_order : E ≡ eq_by_cmp R) where
  module _ {X : Type 0} where
    -- a look-up by `==` answers as one by the order
    pub found_alike : (es : List (K × X)) (q : K) → lookup (E q) es ≡ lookup (is_at (R q)) es
    found_alike es q = ap (λ same. lookup (same q) es) same_as_order

    -- what the map has at a key
    pub get_hashed : (es : List (K × X)) (q : K) → finite.get (from_entries {R = R} es) q ≡ lookup (E q) es
    get_hashed es q = get_made total es q ∙ sym (found_alike es q)

    -- what differs by `==` differs so by the order
    by_order : (es fs : List (K × X)) (k : K) (w : Option X) → ((q : K) → lookup (E q) fs ≡ cond (E k q) w (lookup (E q) es))
        → (q : K) → lookup (is_at (R q)) fs ≡ cond (is_at (R k) q) w (lookup (is_at (R q)) es)
    by_order es fs k w h q =
        sym (found_alike fs q) ∙ h q ∙ ap (λ same. cond (same k q) w (lookup (E q) es)) same_as_order
        ∙ ap (cond (is_at (R k) q) w) (found_alike es q)

    -- entries that differ at one key make maps that differ so
    pub differs_hashed : (es fs : List (K × X)) (k : K) (w : Option X) → ((q : K) → lookup (E q) fs ≡ cond (E k q) w (lookup (E q) es))
        → (q : K) → finite.get (from_entries {R = R} fs) q ≡ cond (eq_by_cmp R k q) w (finite.get (from_entries {R = R} es) q)
    differs_hashed es fs k w h q =
        get_hashed fs q ∙ h q
        ∙ ap (λ same. cond (same k q) w (lookup (E q) es)) same_as_order
        ∙ ap (cond (eq_by_cmp R k q) w) (sym (get_hashed es q))

  module _ (exact : IsAntisymmetric R) {X : Type 0} where
    -- entries that differ at one key, which has a value there, make maps that differ so
    pub hashed_put : (es fs : List (K × X)) (k : K) (v : X) → ((q : K) → lookup (E q) fs ≡ cond (E k q) (Some v) (lookup (E q) es)) → from_entries {R = R} fs ≡ insert (from_entries es) k v
    hashed_put es fs k v h = one_put total exact es fs k v (by_order es fs k (Some v) h)

    -- entries that differ at one key, which has none there, make maps that differ so
    pub hashed_removed : (es fs : List (K × X)) (k : K) → ((q : K) → lookup (E q) fs ≡ cond (E k q) None (lookup (E q) es)) → from_entries {R = R} fs ≡ remove (from_entries es) k
    hashed_removed es fs k h = one_removed total exact es fs k (by_order es fs k None h)

  -- ---- sorted keys

  -- of two that differ and aren't the wrong way round, the first is less
  first_less : (a b : K) → is_lt (R b a) ≡ false → eq_by_cmp R a b ≡ false → R a b ≡ Less
  first_less a b not_after apart = one (R a b) refl
    where
      one : (o : Ordering) → R a b ≡ o → o ≡ Less
      one Less is = refl
      one Equal is = cc (sym apart ∙ ap is_eq is)
      one Greater is = cc (sym not_after ∙ ap is_lt (total.antisymm b a ∙ ap ordering_reverse is))

  -- keys that differ rise once they are sorted
  rise : (ks : List K) → IsDistinct E ks → IsSorted R ks → IsStrictlySortedBy R ks
  unfolding IsStrictlySortedBy
  rise [] distinct sorted = tt
  rise (x ∷ xs) distinct sorted = sorted_from_all_adjacent total (x ∷ xs) x (λ k below.
      first_less (get_or (x ∷ xs) k x) (get_or (x ∷ xs) (k + 1) x) (sorted k x (omega arith) below)
      (sym (ap (λ same. same (get_or (x ∷ xs) k x) (get_or (x ∷ xs) (k + 1) x)) same_as_order)
      ∙ apart_from_distinct E (x ∷ xs) k (k + 1) x distinct (omega arith) below))

  same_flips : (x y : K) → E x y ≡ E y x
  same_flips x y =
      ap (λ same. same x y) same_as_order ∙ (eq_by_cmp_equiv total).symm x y
      ∙ sym (ap (λ same. same y x) same_as_order)

  -- of keys that differ, the sorted ones rise
  pub sorted_rise : (js ks : List K) → IsDistinct E js → IsPermutation js ks → IsSorted R ks → IsStrictlySortedBy R ks
  sorted_rise js ks distinct moved sorted = rise ks (IsDistinct-IsPermutation E same_flips js ks moved distinct) sorted

  module _ {X : Type 0} where
    -- a test by the order finds what the entries have as the map has it
    pub contains_made : (es : List (K × X)) (q : K) → finite.contains_key (from_entries {R = R} es) q ≡ list_any (is_at (R q)) (keys_of es)
    contains_made es q = ap is_some (get_made total es q) ∙ is_some-lookup (is_at (R q)) es

  module _ (exact : IsAntisymmetric R) {X : Type 0} where
    -- the keys of an `IndexMap`, once they are sorted, are those of the map
    pub keys_sorted : (es : List (K × X)) (ks : List K) → IsDistinct E (keys_of es) → IsPermutation (keys_of es) ks → IsSorted R ks → ks ≡ finite.keys (from_entries {R = R} es)
    keys_sorted es ks distinct moved sorted =
        rising_keys total exact (from_entries es) ks (sorted_rise (keys_of es) ks distinct moved sorted)
        (λ q. sym (list_any-IsPermutation (is_at (R q)) (keys_of es) ks moved) ∙ sym (contains_made es q))

  nowhere : (k : K) (js : List K) → AllByRecursion (λ j. E k j ≡ false) js → list_any (is_at (R k)) js ≡ false
  nowhere k [] apart = refl
  nowhere k (j ∷ js) apart =
      ap (λ same. same k j || list_any (is_at (R k)) js) (sym same_as_order)
      ∙ ap (λ b. b || list_any (is_at (R k)) js) apart.0
      ∙ nowhere k js apart.1

  module _ {X : Type 0} where
    -- entries of keys that differ are as many as the map has
    pub len_hashed : (es : List (K × X)) → IsDistinct E (keys_of es) → len (from_entries {R = R} es) ≡ length es
    len_hashed [] distinct = len-empty R X
    len_hashed (e ∷ es) distinct =
        len-insert total (from_entries es) e.0 e.1
        ∙ ap (λ there. cond there (len (from_entries {R = R} es)) (len (from_entries {R = R} es) + 1))
        (contains_made es e.0 ∙ nowhere e.0 (keys_of es) (IsDistinct-head E e.0 (keys_of es) distinct))
        ∙ ap (λ n. n + 1) (len_hashed es (IsDistinct-tail E e.0 (keys_of es) distinct))
        ∙ omega arith

  -- ---- whether two are the same

  same_equiv : IsEquivalence E
  same_equiv = subst (λ same. IsEquivalence same) (sym same_as_order) (eq_by_cmp_equiv total)

  module _ (exact : IsAntisymmetric R) {X : Type 0} {F : X → X → Bool} (values : (x y : X) → Decides (F x y) (x ≡ y)) where
    held-Decides : (a b : Option X) → Decides (option_eq F a b) (a ≡ b)
    held-Decides None None = (λ h. refl, λ h. refl)
    held-Decides None (Some y) = (λ h. cc h, λ h. cc h)
    held-Decides (Some x) None = (λ h. cc h, λ h. cc h)
    held-Decides (Some x) (Some y) = (λ h. ap Some ((values x y).0 h), λ h. (values x y).1 (inside h))
      where
        inside : Some x ≡ Some y → x ≡ y
        inside h = cc h

    -- where `==` of the values tells them apart, `==` of two `IndexMap`s tells the maps apart that their entries make
    pub hashed-Decides : {Z : Type 0} (m n : HashMap K X Z) → Decides (hash_map_eq E F m n) (from_entries {R = R} m.entries ≡ from_entries n.entries)
    hashed-Decides m n = (
      λ h. same_map total exact _ _ (λ q.
          get_hashed m.entries q ∙ (held-Decides (lookup (E q) m.entries) (lookup (E q) n.entries)).0 (get_from_hash_map_eq E F same_equiv m n h q)
          ∙ sym (get_hashed n.entries q)),
      λ same. hash_map_eq_from_get E F m n (λ q.
          (held-Decides (lookup (E q) m.entries) (lookup (E q) n.entries)).1
          (sym (get_hashed m.entries q) ∙ ap (λ (it : FinMap R X). finite.get it q) same ∙ get_hashed n.entries q)),
    )
