-- Sorted snapshots, of which no name stands twice, rise.
use Rattle.std.proofs.Common.{◌≡◌, ℕ, suc, ◌+◌, ◌<◌, ◌≤◌, Bool, true, false, cond, List, [], ◌∷◌, length, get_or, map, count_by, IsPermutation, Ordering, Less, Equal, Greater, is_eq, is_lt, refl, sym, subst, ◌∙◌, arith, true≢false}
use Rattle.std.proofs.lemmas.List.Sorted.{ranks_by, sorted_far, sum_by-IsPermutation}
use Rattle.std.proofs.lemmas.List.Sums.{sum_by-cons}
use Rattle.std.specs.Cmp.{IsTotalOrder}
use Rattle.std.specs.List.{AllByRecursion}
use Rattle.std.specs.List.Sorted.{IsSortedBy}
use Rattle.std.specs.Ordering.{int_cmp, ordering_reverse, ordering_then}
use Rattle.keep_names.specs.Orders.{id_cmp}
use Rattle.keep_snap.specs.Facts.{FactsData}
use Rattle.keep_labels.specs.Keeping.{EachOnce}
use Rattle.keep_labels.specs.Orders.{sorting_cmp, later_first_cmp}
use Rattle.keep_labels.specs.Walk.{Rises}
use Rattle.keep_labels.specs.declared.order.Counted.{Counted}
use Rattle.keep_labels.proofs.Counting.{sorting_total}
use Rattle.keep_labels.proofs.Lists.{all_both}

-- ---- no name twice

none_here : (b : Bool) (k : ℕ) → cond b 1 0 + k ≡ 0 → b ≡ false
none_here true k h = absurd (omega arith)
none_here false k h = refl

none_left : (b : Bool) (k : ℕ) → cond b 1 0 + k ≡ 0 → k ≡ 0
none_left true k h = absurd (omega arith)
none_left false k h = omega arith

none_counted : {X : Type 0} (p : X → Bool) (xs : List X) → count_by p xs ≡ 0 → AllByRecursion (λ t. p t ≡ false) xs
none_counted p [] h = tt
none_counted p (x ∷ xs) h =
    let e : cond (p x) 1 0 + count_by p xs ≡ 0 = sym (sum_by-cons (λ t. cond (p t) 1 0) x xs) ∙ h in
    (none_here (p x) (count_by p xs) e, none_counted p xs (none_left (p x) (count_by p xs) e))

pub once_behind : (x : FactsData) (xs : List FactsData) → EachOnce (x ∷ xs) → EachOnce xs
once_behind x xs once name =
    let p : FactsData → Bool = λ s. is_eq (id_cmp s.name name) in
    let e : count_by p (x ∷ xs) ≡ cond (p x) 1 0 + count_by p xs = sum_by-cons (λ t. cond (p t) 1 0) x xs in
    let h : count_by p (x ∷ xs) ≤ 1 = once name in
    omega arith

-- those behind have other names
pub apart_behind : (x : FactsData) (xs : List FactsData) → is_eq (id_cmp x.name x.name) ≡ true → EachOnce (x ∷ xs)
    → AllByRecursion (λ t. is_eq (id_cmp t.name x.name) ≡ false) xs
apart_behind x xs own once =
    let p : FactsData → Bool = λ s. is_eq (id_cmp s.name x.name) in
    none_counted p xs
    (none_more (p x) (count_by p xs) (count_by p (x ∷ xs)) own (sum_by-cons (λ t. cond (p t) 1 0) x xs) (once x.name))
  where
    none_more : (b : Bool) (k total : ℕ) → b ≡ true → total ≡ cond b 1 0 + k → total ≤ 1 → k ≡ 0
    none_more true k total own e h = omega arith
    none_more false k total own e h = absurd (true≢false (sym own))

pub once_permuted : (xs ys : List FactsData) → IsPermutation xs ys → EachOnce xs → EachOnce ys
once_permuted xs ys same once name =
    subst (λ k. k ≤ 1) (sym (sum_by-IsPermutation (λ s. cond (is_eq (id_cmp s.name name)) 1 0) xs ys same)) (once name)

-- ---- those behind come after

-- the one that isn't before the other, and has another name, comes after it
behind_by : (turn instant name : Ordering) → is_lt (ordering_then turn (ordering_then instant name)) ≡ false → is_eq name ≡ false
    → ordering_reverse (ordering_then turn (ordering_then instant name)) ≡ Less
behind_by Less instant name after apart = absurd (true≢false after)
behind_by Greater instant name after apart = refl
behind_by Equal Less name after apart = absurd (true≢false after)
behind_by Equal Greater name after apart = refl
behind_by Equal Equal Less after apart = absurd (true≢false after)
behind_by Equal Equal Equal after apart = absurd (true≢false apart)
behind_by Equal Equal Greater after apart = refl

-- none behind comes before one in front
abbrev pub Climbs : {X : Type 0} → (X → X → Ordering) → List X → Type 0
Climbs cmp [] = Unit {0}
Climbs cmp (x ∷ xs) = AllByRecursion (λ t. is_lt (cmp t x) ≡ false) xs × Climbs cmp xs

module _ {X K : Type 0} (view : X → K) (R : K → K → Ordering) (total : IsTotalOrder R) where
  after_first : (y : X) (ys : List X)
      → ((j : ℕ) (d : X) → j < length ys → is_lt (R (view (get_or ys j d)) (view y)) ≡ false)
      → AllByRecursion (λ t. is_lt (R t (view y)) ≡ false) (map view ys)
  after_first y [] far = tt
  after_first y (z ∷ zs) far = (far 0 z (omega arith), after_first y zs (λ j d below. far (suc j) d (omega arith)))

  climbs_far : (ys : List X)
      → ((i j : ℕ) (d : X) → i ≤ j → j < length ys → is_lt (R (view (get_or ys j d)) (view (get_or ys i d))) ≡ false)
      → Climbs R (map view ys)
  climbs_far [] far = tt
  climbs_far (y ∷ ys) far = (
    after_first y ys (λ j d below. far 0 (suc j) d (omega arith) (omega arith)),
    climbs_far ys (λ i j d upto below. far (suc i) (suc j) d (omega arith) (omega arith)),
  )

  pub climbs_sorted : (ys : List X) → IsSortedBy (λ a b. is_lt (R (view a) (view b))) ys → Climbs R (map view ys)
  climbs_sorted ys sorted = climbs_far ys (sorted_far (λ a b. is_lt (R (view a) (view b))) (ranks_by total view) ys sorted)

module _ (counted : Counted) where
  comes_after : (x t : FactsData) → is_lt (sorting_cmp counted t x) ≡ false → is_eq (id_cmp t.name x.name) ≡ false → sorting_cmp counted x t ≡ Less
  comes_after x t after apart =
      (sorting_total counted).antisymm x t
      ∙ behind_by (later_first_cmp counted t x) (int_cmp x.instant t.instant) (id_cmp t.name x.name) after apart

  pub rises_once : (all : List FactsData) → ((s : FactsData) → is_eq (id_cmp s.name s.name) ≡ true) → Climbs (sorting_cmp counted) all → EachOnce all
      → Rises (sorting_cmp counted) all
  rises_once [] own climbs once = tt
  rises_once (x ∷ xs) own climbs once = (
    all_both (λ t. is_lt (sorting_cmp counted t x) ≡ false) (λ t. is_eq (id_cmp t.name x.name) ≡ false) (λ t. sorting_cmp counted x t ≡ Less)
        (λ t after apart. comes_after x t after apart) xs climbs.0 (apart_behind x xs (own x) once),
    rises_once xs own climbs.1 (once_behind x xs once),
  )
