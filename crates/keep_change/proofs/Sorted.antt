-- Looking up a key in a list whose keys are in order.
use Rattle.std.proofs.Common.{◌≡◌, ℕ, zero, suc, ◌+◌, ◌<◌, ◌≤◌, Bool, true, false, cond, List, [], ◌∷◌, map, length, get_or, Option, Some, None, Ordering, refl, sym, ap, ◌∙◌, arith, ◌||◌, inl, inr, Bor}
use Rattle.std.specs.Prelude.{is_some, option_copied, IsTrue}
use Rattle.std.specs.List.{find, list_any, AllByRecursion, IsAllAdjacentAnswer}
use Rattle.std.specs.List.Sorted.{IsStrictlySortedBy, IsNonDecreasingBy, IsPartitionPoint}
use Rattle.std.specs.Cmp.{IsTotalOrder, alike_right, tied_back}
use Rattle.std.specs.Ordering.{eq_by_cmp, is_eq, is_lt, ordering_index, ordering_reverse}
use Rattle.std.specs.declared.cmp.Ordering.TheVariants.{Less, Equal, Greater}
use Rattle.std.proofs.lemmas.Bool.{cases_lt}
use Rattle.std.proofs.lemmas.Map.Keys.{sorted_head, sorted_tail}

kept : {X : Type 0} (b : Bool) (x : X) (o : Option X) (rest : Bool) → is_some o ≡ rest → is_some (cond b (Some x) o) ≡ (b || rest)
kept true x o rest h = refl
kept false x o rest h = h

module _ {X K : Type 0} (R : K → K → Ordering) (o : IsTotalOrder R) (key : X → K) where
  -- no key below q ties with it
  not_tied : (x q : K) → R x q ≡ Less → eq_by_cmp R q x ≡ false
  not_tied x q below = ap is_eq (o.antisymm q x ∙ ap ordering_reverse below)

  head_below : (x : X) (xs : List X) (i : ℕ) (d : X) → AllByRecursion (λ k. R (key x) k ≡ Less) (map key xs) → i < length xs → R (key x) (key (get_or xs i d)) ≡ Less
  head_below x [] i d all within = absurd (omega arith)
  head_below x (y ∷ ys) zero d all within = all.0
  head_below x (y ∷ ys) (suc i) d all within = head_below x ys i d all.1 (omega arith)

  -- what ties with q is found, since nothing before it does
  pub find-at : (q : K) (xs : List X) (i : ℕ) (d : X) → IsStrictlySortedBy R (map key xs) → i < length xs → R (key (get_or xs i d)) q ≡ Equal → find (λ x. eq_by_cmp R q (key x)) xs ≡ Some (get_or xs i d)
  find-at q [] i d sorted within tied = absurd (omega arith)
  find-at q (x ∷ xs) zero d sorted within tied =
      let here : eq_by_cmp R q (key x) ≡ true = ap is_eq (tied_back o (key x) q tied) in
      rw here refl
  find-at q (x ∷ xs) (suc i) d sorted within tied =
      let below : R (key x) (key (get_or xs i d)) ≡ Less = head_below x xs i d (sorted_head R (key x) (map key xs) sorted) (omega arith) in
      let apart : eq_by_cmp R q (key x) ≡ false = not_tied (key x) q (sym (alike_right o (key (get_or xs i d)) q (key x) tied) ∙ below) in
      rw apart (find-at q xs i d (sorted_tail R (key x) (map key xs) sorted) (omega arith) tied)

  -- nothing is found where no key ties
  pub find-none : (q : K) (xs : List X) → ((i : ℕ) (d : X) → i < length xs → eq_by_cmp R q (key (get_or xs i d)) ≡ false) → find (λ x. eq_by_cmp R q (key x)) xs ≡ None
  find-none q [] apart = refl
  find-none q (x ∷ xs) apart =
      let here : eq_by_cmp R q (key x) ≡ false = apart 0 x (omega arith) in
      rw here (find-none q xs (λ i d within. apart (suc i) d (omega arith)))

  -- something is found where some key ties
  pub is_some-find : (q : K) (xs : List X) → is_some (find (λ x. eq_by_cmp R q (key x)) xs) ≡ list_any (eq_by_cmp R q) (map key xs)
  is_some-find q [] = refl
  is_some-find q (x ∷ xs) = kept (eq_by_cmp R q (key x)) x _ _ (is_some-find q xs)

  rises : (k l q : K) → R k l ≡ Less → (r s : Ordering) → R k q ≡ r → R l q ≡ s → ordering_index r ≤ ordering_index s
  rises k l q below Less s first second = omega arith
  rises k l q below Equal Less first second = cc (o.trans k l q below second)
  rises k l q below Equal Equal first second = omega arith
  rises k l q below Equal Greater first second = omega arith
  rises k l q below Greater Less first second = cc (o.trans k l q below second)
  rises k l q below Greater Equal first second = cc (alike_right o l q k second)
  rises k l q below Greater Greater first second = omega arith

  -- what the order with q answers doesn't fall along the list
  index_rises : (q : K) (xs : List X) → IsStrictlySortedBy R (map key xs) → IsNonDecreasingBy (λ x. ordering_index (R (key x) q)) xs
  index_rises q [] sorted i j d le within = absurd (omega arith)
  index_rises q (x ∷ xs) sorted zero zero d le within = omega arith
  index_rises q (x ∷ xs) sorted zero (suc j) d le within =
      rises (key x) (key (get_or xs j d)) q (head_below x xs j d (sorted_head R (key x) (map key xs) sorted) (omega arith)) _ _ refl refl
  index_rises q (x ∷ xs) sorted (suc i) zero d le within = absurd (omega arith)
  index_rises q (x ∷ xs) sorted (suc i) (suc j) d le within =
      index_rises q xs (sorted_tail R (key x) (map key xs) sorted) i j d (omega arith) (omega arith)

  not_above : (x q : K) → R x q ≡ Greater → eq_by_cmp R q x ≡ false
  not_above x q above = ap is_eq (o.antisymm q x ∙ ap ordering_reverse above)

  -- a binary search that finds no place has passed all keys
  pub find-past : (q : K) (xs : List X) (i : ℕ) → IsStrictlySortedBy R (map key xs) → (IsNonDecreasingBy (λ x. ordering_index (R (key x) q)) xs → IsPartitionPoint (λ x. R (key x) q ≡ Less) (λ x. R (key x) q ≡ Greater) xs i) → find (λ x. eq_by_cmp R q (key x)) xs ≡ None
  find-past q xs i sorted point =
      let around = point (index_rises q xs sorted) in
      find-none q xs (λ j d within. elim (cases_lt j i) as (λ _. eq_by_cmp R q (key (get_or xs j d)) ≡ false) [
        | inl before ↦ not_tied (key (get_or xs j d)) q (around.0 j d (omega arith) before)
        | inr behind ↦ not_above (key (get_or xs j d)) q (around.1 j d behind within)
      ])

pub is_some-option_copied : {X : Type 0} (found : Option (Bor X)) → is_some (option_copied found) ≡ is_some found
is_some-option_copied None = refl
is_some-option_copied (Some x) = refl

module _ {X K : Type 0} (R : K → K → Ordering) (o : IsTotalOrder R) (key : X → K) where
  all_below : (k l : K) (ks : List K) → R k l ≡ Less → AllByRecursion (λ m. R l m ≡ Less) ks → AllByRecursion (λ m. R k m ≡ Less) ks
  all_below k l [] below all = tt
  all_below k l (m ∷ ks) below all = (o.trans k l m below all.0, all_below k l ks below all.1)

  join_order : (k l : K) (ks : List K) → R k l ≡ Less → IsStrictlySortedBy R (l ∷ ks) → IsStrictlySortedBy R (k ∷ l ∷ ks)
  unfolding IsStrictlySortedBy
  join_order k l ks below sorted = ((below, all_below k l ks below sorted.0), sorted)

  -- keys that rise from each one to the next are in order
  pub sorted-from_adjacent : (xs : List X) → ((k : ℕ) (d : X) → k + 1 < length xs → R (key (get_or xs k d)) (key (get_or xs (k + 1) d)) ≡ Less) → IsStrictlySortedBy R (map key xs)
  unfolding IsStrictlySortedBy
  sorted-from_adjacent [] rise = tt
  sorted-from_adjacent (x ∷ []) rise = (tt, tt)
  sorted-from_adjacent (x ∷ y ∷ ys) rise =
      join_order (key x) (key y) (map key ys) (rise 0 x (omega arith)) (sorted-from_adjacent (y ∷ ys) (λ k d within. let e : suc k + 1 ≡ suc (k + 1) = omega arith in rw e at (rise (suc k) d (omega arith))))

  -- keys that are in order rise from each one to the next
  pub adjacent-from_sorted : (xs : List X) (k : ℕ) (d : X) → IsStrictlySortedBy R (map key xs) → k + 1 < length xs → R (key (get_or xs k d)) (key (get_or xs (k + 1) d)) ≡ Less
  unfolding IsStrictlySortedBy
  adjacent-from_sorted [] k d sorted within = absurd (omega arith)
  adjacent-from_sorted (x ∷ []) k d sorted within = absurd (omega arith)
  adjacent-from_sorted (x ∷ y ∷ ys) zero d sorted within = sorted.0.0
  adjacent-from_sorted (x ∷ y ∷ ys) (suc k) d sorted within =
      let e : suc k + 1 ≡ suc (k + 1) = omega arith in rw e (adjacent-from_sorted (y ∷ ys) k d sorted.1 (omega arith))

  less : (r : Ordering) → true ≡ is_lt r → r ≡ Less
  less Less h = refl
  less Equal h = cc h
  less Greater h = cc h

  -- what a test of each key against the next says of the list
  pub ordered-from_adjacent : (xs : List X) (r : Bool) → IsAllAdjacentAnswer (λ x y b. b ≡ is_lt (R (key x) (key y))) xs r → (IsTrue r → IsStrictlySortedBy R (map key xs)) × (IsStrictlySortedBy R (map key xs) → IsTrue r)
  ordered-from_adjacent xs true each =
      (λ _. sorted-from_adjacent xs (λ k d within. less _ (each k d within)), λ _. refl)
  ordered-from_adjacent [] false fall = absurd (omega (arith, fall.1))
  ordered-from_adjacent (x ∷ xs) false fall =
      (λ h. cc h, λ sorted. fall.2 x ∙ ap is_lt (adjacent-from_sorted (x ∷ xs) fall.0 x sorted fall.1))
