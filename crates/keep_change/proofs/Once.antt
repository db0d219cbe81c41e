-- How often a facet stands in a change's lists.
use Rattle.std.proofs.Common.{◌≡◌, ℕ, zero, suc, ◌+◌, ◌<◌, ◌≤◌, Bool, true, false, cond, List, [], ◌∷◌, ◌++◌, map, length, Ordering, refl, sym, ap, ◌∙◌, subst, arith, append_assoc, zero-add, get_or, ◌&&◌, ◌⊎◌, inl, inr, eqb}
use Rattle.std.specs.Prelude.{count_by, IsTrue, ◌≢◌, ◌↔◌, not}
use Rattle.std.specs.Int.{from_bool}
use Rattle.std.specs.List.{list_any, list_all, AllByRecursion}
use Rattle.std.specs.List.Sorted.{IsStrictlySortedBy}
use Rattle.std.specs.Cmp.{IsTotalOrder}
use Rattle.std.specs.Ordering.{eq_by_cmp, is_eq}
use Rattle.std.specs.declared.cmp.Ordering.TheVariants.{Less, Equal, Greater}
use Rattle.std.proofs.lemmas.List.{map-append}
use Rattle.std.proofs.lemmas.List.Sums.{sum_by-append, sum_by-cons}
use Rattle.std.proofs.lemmas.Bool.{eqb-true}
use Rattle.std.proofs.Math.Dec.{eqb-suc-zero}
use Rattle.std.specs.Cmp.{first_so, second_so}
use Rattle.std.proofs.lemmas.List.Folds.{list_all-append, list_all-map}
use Rattle.std.proofs.lemmas.Simd.{map-map}
use Rattle.keep_repo.specs.Facet.{facet_eq}
use Rattle.keep_repo.specs.declared.facet.Facet.{Facet}
use Rattle.keep_repo.specs.declared.facet.Facet.TheVariants.{File, Mark}
use Rattle.keep_repo.proofs.Orders.{facet_eq_same, facet_eq_refl}
use Rattle.keep_change.specs.NamedBytes.{NamedBytes}
use Rattle.keep_change.specs.declared.change.Change.{Change}
use Rattle.keep_change.specs.declared.change.PackMark.{PackMark}
use Rattle.keep_change.specs.Change.{added, dropped, set, cleared}
use Rattle.keep_change.specs.Form.{is_once, HasNoFacetTwice}
use Rattle.keep_change.specs.Lists.{file_names, marked_packs}
use Rattle.keep_change.specs.Touch.{facets}

module _ {K : Type 0} (R : K → K → Ordering) (o : IsTotalOrder R) where
  tied_equal : (q k : K) → eq_by_cmp R q k ≡ true → R q k ≡ Equal
  tied_equal q k h = equal (R q k) h where
    equal : (r : Ordering) → is_eq r ≡ true → r ≡ Equal
    equal Less h = cc h
    equal Equal h = refl
    equal Greater h = cc h

  none_above : (q k : K) (ks : List K) → eq_by_cmp R q k ≡ true → AllByRecursion (λ m. R k m ≡ Less) ks → count_by (eq_by_cmp R q) ks ≡ 0
  none_above q k [] tied all = refl
  none_above q k (m ∷ ks) tied all =
      let apart : eq_by_cmp R q m ≡ false = ap is_eq (o.congr q k m (tied_equal q k tied) ∙ all.0) in
      sum_by-cons (λ m. cond (eq_by_cmp R q m) 1 0) m ks ∙ rw apart (zero-add _ ∙ none_above q k ks tied all.1)

  -- in a list that is in order a key stands once, or not at all
  pub count_by-sorted : (q : K) (ks : List K) → IsStrictlySortedBy R ks → count_by (eq_by_cmp R q) ks ≡ from_bool (list_any (eq_by_cmp R q) ks)
  unfolding IsStrictlySortedBy
  count_by-sorted q [] sorted = refl
  count_by-sorted q (k ∷ ks) sorted = split (eq_by_cmp R q k) refl (count_by-sorted q ks sorted.1) where
    split : (b : Bool) → eq_by_cmp R q k ≡ b → count_by (eq_by_cmp R q) ks ≡ from_bool (list_any (eq_by_cmp R q) ks) → count_by (eq_by_cmp R q) (k ∷ ks) ≡ from_bool (list_any (eq_by_cmp R q) (k ∷ ks))
    split true tied rest =
        sum_by-cons (λ m. cond (eq_by_cmp R q m) 1 0) k ks ∙ rw (tied, none_above q k ks tied sorted.0) refl
    split false apart rest =
        sum_by-cons (λ m. cond (eq_by_cmp R q m) 1 0) k ks ∙ rw apart (zero-add _ ∙ rest)

-- the members of the eight lists, counted list by list
pub count_by-facets : (p : Facet → Bool) (c : Change) → count_by p (facets c) ≡
    count_by p (map (λ f. File f.name) c.adds) + count_by p (map (λ f. File f.name) c.drops)
    + count_by p (map (λ m. Mark m.pack) c.sets) + count_by p (map (λ m. Mark m.pack) c.clears)
    + count_by p (map File c.present) + count_by p (map File c.absent)
    + count_by p (map Mark c.marked) + count_by p (map Mark c.unmarked)
count_by-facets p c = simp (map-append, map-map, sum_by-append) (omega arith)

-- the members of the eight lists, counted by the names of the files and the packs of the marks
pub count_by-keys : (p : Facet → Bool) (c : Change) → count_by p (facets c) ≡
    count_by p (map File (file_names c.adds)) + count_by p (map File (file_names c.drops))
    + count_by p (map Mark (marked_packs c.sets)) + count_by p (map Mark (marked_packs c.clears))
    + count_by p (map File c.present) + count_by p (map File c.absent)
    + count_by p (map Mark c.marked) + count_by p (map Mark c.unmarked)
count_by-keys p c = simp (map-append, map-map, sum_by-append) (omega arith)

-- something is written where one of the four lists isn't empty
pub some_written : (a d : List NamedBytes) (s k : List PackMark) → IsTrue (not (((eqb (length a) 0 && eqb (length d) 0) && eqb (length s) 0) && eqb (length k) 0)) ↔ ((map added a ++ (map dropped d ++ (map set s ++ map cleared k))) ≢ [])
some_written [] [] [] [] = (λ h e. cc h, λ h. absurd (h refl))
some_written [] [] [] (x ∷ k) = (λ h e. cc e, λ h. rw (eqb-suc-zero (length k)) refl)
some_written [] [] (x ∷ s) k = (λ h e. cc e, λ h. rw (eqb-suc-zero (length s)) refl)
some_written [] (x ∷ d) s k = (λ h e. cc e, λ h. rw (eqb-suc-zero (length d)) refl)
some_written (x ∷ a) d s k = (λ h e. cc e, λ h. rw (eqb-suc-zero (length a)) refl)

regroup : (a b c d e f g h : Bool) → ((a && (b && (c && d))) && (e && (f && (g && h)))) ≡ (((((((a && b) && c) && d) && e) && f) && g) && h)
regroup false b c d e f g h = refl
regroup true false c d e f g h = refl
regroup true true false d e f g h = refl
regroup true true true false e f g h = refl
regroup true true true true false f g h = refl
regroup true true true true true false g h = refl
regroup true true true true true true false h = refl
regroup true true true true true true true h = refl

-- what holds of all facets holds of the members of each list
pub list_all-facets : (p : Facet → Bool) (c : Change) → list_all p (facets c) ≡
    (((((((list_all (λ f. p (File f.name)) c.adds && list_all (λ f. p (File f.name)) c.drops)
    && list_all (λ m. p (Mark m.pack)) c.sets) && list_all (λ m. p (Mark m.pack)) c.clears)
    && list_all (λ n. p (File n)) c.present) && list_all (λ n. p (File n)) c.absent)
    && list_all (λ i. p (Mark i)) c.marked) && list_all (λ i. p (Mark i)) c.unmarked)
list_all-facets p c = simp (map-append, map-map, list_all-append, list_all-map) (regroup
    (list_all (λ f. p (File f.name)) c.adds) (list_all (λ f. p (File f.name)) c.drops)
    (list_all (λ m. p (Mark m.pack)) c.sets) (list_all (λ m. p (Mark m.pack)) c.clears)
    (list_all (λ n. p (File n)) c.present) (list_all (λ n. p (File n)) c.absent)
    (list_all (λ i. p (Mark i)) c.marked) (list_all (λ i. p (Mark i)) c.unmarked))

-- a facet that stands among some of these stands once, or it stands nowhere among them
once_or_none : (gs fs : List Facet) → list_all (λ f. eqb (count_by (facet_eq f) fs) 1) gs ≡ true → (q : Facet) → (count_by (facet_eq q) gs ≡ 0) ⊎ (count_by (facet_eq q) fs ≡ 1)
once_or_none [] fs each q = inl refl
once_or_none (g ∷ gs) fs each q = split (facet_eq q g) refl (once_or_none gs fs (second_so _ _ each) q) where
  split : (b : Bool) → facet_eq q g ≡ b → (count_by (facet_eq q) gs ≡ 0) ⊎ (count_by (facet_eq q) fs ≡ 1) → (count_by (facet_eq q) (g ∷ gs) ≡ 0) ⊎ (count_by (facet_eq q) fs ≡ 1)
  split true same rest = inr (rw (facet_eq_same q g same) (eqb-true _ _ (first_so _ _ each)))
  split false apart rest = elim rest as (λ _. (count_by (facet_eq q) (g ∷ gs) ≡ 0) ⊎ (count_by (facet_eq q) fs ≡ 1)) [
    | inl none ↦ inl (sum_by-cons (λ m. cond (facet_eq q m) 1 0) g gs ∙ rw (apart, none) refl)
    | inr one ↦ inr one
  ]

at_most_one : (fs : List Facet) → list_all (λ f. eqb (count_by (facet_eq f) fs) 1) fs ≡ true → (q : Facet) → count_by (facet_eq q) fs ≤ 1
at_most_one fs each q = elim (once_or_none fs fs each q) [
  | inl none ↦ omega (arith, none)
  | inr one ↦ omega (arith, one)
]

each_counted : (pre gs : List Facet) → ((q : Facet) → count_by (facet_eq q) (pre ++ gs) ≤ 1) → list_all (λ f. eqb (count_by (facet_eq f) (pre ++ gs)) 1) gs ≡ true
each_counted pre [] few = refl
each_counted pre (g ∷ gs) few =
    let all : List Facet = pre ++ g ∷ gs in
    let joined : (pre ++ g ∷ []) ++ gs ≡ all = append_assoc pre (g ∷ []) gs in
    let counted : count_by (facet_eq g) all ≡ count_by (facet_eq g) pre + (1 + count_by (facet_eq g) gs) =
    sum_by-append (λ m. cond (facet_eq g m) 1 0) pre (g ∷ gs)
    ∙ ap (λ n. count_by (facet_eq g) pre + n) (sum_by-cons (λ m. cond (facet_eq g m) 1 0) g gs ∙ rw (facet_eq_refl g) refl) in
    let one : count_by (facet_eq g) all ≡ 1 = omega (arith, counted, few g) in
    let rest : list_all (λ f. eqb (count_by (facet_eq f) all) 1) gs ≡ true =
    subst (λ fs. list_all (λ f. eqb (count_by (facet_eq f) fs) 1) gs ≡ true) joined
    (each_counted (pre ++ g ∷ []) gs (λ q. subst (λ fs. count_by (facet_eq q) fs ≤ 1) (sym joined) (few q))) in
    rw (one, rest) refl

-- each facet stands once where none stands twice
pub once_everywhere : (c : Change) → (list_all (is_once c) (facets c) ≡ true) ↔ HasNoFacetTwice c
once_everywhere c = (at_most_one (facets c), each_counted [] (facets c))

-- one that fails makes not all pass
pub list_all-fails : {X : Type 0} (p : X → Bool) (xs : List X) (i : ℕ) (x : X) → i < length xs → x ≡ get_or xs i x → p x ≡ false → false ≡ list_all p xs
list_all-fails p [] i x within is fails = absurd (omega arith)
list_all-fails p (y ∷ ys) zero x within is fails = let here : p y ≡ false = ap p (sym is) ∙ fails in rw here refl
list_all-fails p (y ∷ ys) (suc i) x within is fails = fails_after (p y) (list_all-fails p ys i x (omega arith) is fails) where
  fails_after : (b : Bool) → false ≡ list_all p ys → false ≡ (b && list_all p ys)
  fails_after true rest = rest
  fails_after false rest = refl

pub eqb-apart : (m n : ℕ) → (m ≡ n → ⊥) → eqb m n ≡ false
eqb-apart m n apart = split (eqb m n) refl where
  split : (b : Bool) → eqb m n ≡ b → b ≡ false
  split true same = absurd (apart (eqb-true m n same))
  split false other = refl
