-- What is found for keys in order, gathered with each key for which something is.
use Rattle.std.proofs.Common.{◌≡◌, Bool, true, false, ◌||◌, cond, List, [], ◌∷◌, Option, None, Some, option_map, is_some, refl, sym, ap, ◌∙◌, Ordering, Less}
use Rattle.std.proofs.lemmas.Map.Views.{tells_apart}
use Rattle.std.specs.Cmp.{IsTotalOrder}
use Rattle.std.specs.FinMap as finite
use Rattle.std.specs.FinMap.{IsAntisymmetric}
use Rattle.std.specs.List.{AllByRecursion, cons_option, filter_map, list_any}
use Rattle.std.specs.List.Sorted.{IsStrictlySortedBy}
use Rattle.std.specs.BTreeMap.{is_at}
use Rattle.std.specs.Map.{keys_of, lookup}
use Rattle.std.specs.Ordering.{eq_by_cmp}
use Rattle.keep_repo.proofs.Maps.{entries_made, get_made}

module _ {K V : Type 0} (R : K → K → Ordering) (total : IsTotalOrder R) (exact : IsAntisymmetric R) (g : K → Option V) where
  abbrev pub entry : K → Option (K × V)
  entry k = option_map (λ v. (k, v)) (g k)

  abbrev pub gathered : List K → List (K × V)
  gathered ks = filter_map entry ks

  found : (q : K) (ks : List K) → finite.find R q (gathered ks) ≡ cond (list_any (eq_by_cmp R q) ks) (g q) None
  found q [] = refl
  found q (k ∷ ks) = cases (found q ks) (g k) refl (eq_by_cmp R q k) refl where
    any : Bool
    any = list_any (eq_by_cmp R q) ks

    nothing : Option V
    nothing = None

    neither : (b : Bool) → cond b nothing nothing ≡ nothing
    neither true = refl
    neither false = refl

    cases : finite.find R q (gathered ks) ≡ cond any (g q) None → (o : Option V) → g k ≡ o → (b : Bool) → eq_by_cmp R q k ≡ b → finite.find R q (cons_option (option_map (λ v. (k, v)) o) (gathered ks)) ≡ cond (b || any) (g q) None
    cases before None is true same =
        let none : g q ≡ None = ap g (tells_apart exact q k same) ∙ is in
        before ∙ ap (λ o. cond any o None) none ∙ neither any ∙ sym none
    cases before None is false other = before
    cases before (Some v) is true same =
        ap (λ b. cond b (Some v) (finite.find R q (gathered ks))) same ∙ sym is ∙ ap g (sym (tells_apart exact q k same))
    cases before (Some v) is false other = ap (λ b. cond b (Some v) (finite.find R q (gathered ks))) other ∙ before

  -- the keys have each for which something is found
  abbrev pub HasAll : List K → Type 0
  HasAll ks = (q : K) → is_some (g q) ≡ true → list_any (eq_by_cmp R q) ks ≡ true

  -- where nothing is found for other keys, all is gathered
  pub found_all : (ks : List K) (q : K) → (is_some (g q) ≡ true → list_any (eq_by_cmp R q) ks ≡ true) → finite.find R q (gathered ks) ≡ g q
  found_all ks q there = found q ks ∙ cases (g q) refl (list_any (eq_by_cmp R q) ks) refl where
    cases : (o : Option V) → g q ≡ o → (b : Bool) → list_any (eq_by_cmp R q) ks ≡ b → cond b o None ≡ o
    cases o is true any = refl
    cases None is false none = refl
    cases (Some v) is false none = cc (there (ap is_some is), none)

  above : (k : K) (ks : List K) → AllByRecursion (λ y. R k y ≡ Less) ks → AllByRecursion (λ y. R k y ≡ Less) (keys_of (gathered ks))
  above k [] h = tt
  above k (x ∷ ks) h = cases (g x) (above k ks h.1) where
    cases : (o : Option V) → AllByRecursion (λ y. R k y ≡ Less) (keys_of (gathered ks)) → AllByRecursion (λ y. R k y ≡ Less) (keys_of (cons_option (option_map (λ v. (x, v)) o) (gathered ks)))
    cases None rest = rest
    cases (Some v) rest = (h.0, rest)

  rises_by : (x : K) (es : List (K × V)) (o : Option V) → AllByRecursion (λ y. R x y ≡ Less) (keys_of es) → IsStrictlySortedBy R (keys_of es) → IsStrictlySortedBy R (keys_of (cons_option (option_map (λ v. (x, v)) o) es))
  unfolding IsStrictlySortedBy
  rises_by x es None below rest = rest
  rises_by x es (Some v) below rest = (below, rest)

  -- what is gathered is in order
  rises : (ks : List K) → IsStrictlySortedBy R ks → IsStrictlySortedBy R (keys_of (gathered ks))
  unfolding IsStrictlySortedBy
  rises [] h = tt
  rises (x ∷ ks) h = rises_by x (gathered ks) (g x) (above x ks h.0) (rises ks h.1)

  -- keys in order that have each for which something is found gather the same, whichever others they have
  pub gathered_alike : (js ks : List K) → IsStrictlySortedBy R js → IsStrictlySortedBy R ks → HasAll js → HasAll ks → gathered js ≡ gathered ks
  gathered_alike js ks js_sorted ks_sorted js_all ks_all =
      let made_of : List K → finite.FinMap R V = λ qs. finite.from_entries (gathered qs) in
      let at : (qs : List K) → HasAll qs → (q : K) → finite.get (made_of qs) q ≡ g q = λ qs all q.
      finite.get-from_entries total (gathered qs) q ∙ found_all qs q (all q) in
      let same : made_of js ≡ made_of ks = finite.same_map total exact _ _ (λ q. at js js_all q ∙ sym (at ks ks_all q)) in
      sym (entries_made total (gathered js) (rises js js_sorted)) ∙ ap finite.entries same
      ∙ entries_made total (gathered ks) (rises ks ks_sorted)

  -- entries in order under whose keys just that is found are what is gathered
  pub gathered_made : (es : List (K × V)) (ks : List K) → IsStrictlySortedBy R (keys_of es) → IsStrictlySortedBy R ks → HasAll ks → ((q : K) → lookup (is_at (R q)) es ≡ g q) → es ≡ gathered ks
  gathered_made es ks es_sorted ks_sorted all are =
      let same : finite.from_entries {R = R} es ≡ finite.from_entries {R = R} (gathered ks) = finite.same_map total exact _ _ (λ q.
      get_made total es q ∙ are q ∙ sym (finite.get-from_entries total (gathered ks) q ∙ found_all ks q (all q))) in
      sym (entries_made total es es_sorted) ∙ ap finite.entries same ∙ entries_made total (gathered ks) (rises ks ks_sorted)
