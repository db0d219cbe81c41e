-- A list whose numbers ascend is known by what is found under each number.
use Rattle.std.proofs.Common.{◌≡◌, ℕ, ◌<◌, ◌≤◌, ◌==◌, inl, inr, List, [], ◌∷◌, map, Option, Some, None, Less, refl, sym, ap, ap₂, ◌∙◌, arith, subst}
use Rattle.std.specs.List.{AllByRecursion, find}
use Rattle.std.specs.List.Sorted.{IsStrictlySortedBy}
use Rattle.std.specs.Option.{option_map}
use Rattle.std.specs.Ordering.{nat_cmp}
use Rattle.std.proofs.lemmas.Bool.{cases_eq, cases_order, eq-eqb, ne_eqb}
use Rattle.std.proofs.lemmas.Bool.Decides.{nat_tests}
use Rattle.std.proofs.lemmas.Option.{same_Some}

module _ {X : Type 0} (num : X → ℕ) where
  -- each number is above those before it
  abbrev pub Rises : List X → Type 0
  Rises [] = Unit {0}
  Rises (x ∷ xs) = AllByRecursion (λ y. num x < num y) xs × Rises xs

  abbrev pub under : List X → ℕ → Option X
  under xs k = find (λ x. num x == k) xs

-- nothing is found under a number up to which there is none
none_low : {X : Type 0} (num : X → ℕ) (b k : ℕ) (xs : List X) → AllByRecursion (λ y. b < num y) xs → k ≤ b → under num xs k ≡ None
none_low num b k [] all low = refl
none_low num b k (x ∷ xs) all low =
    let above : b < num x = all.0 in
    rw (ne_eqb (num x) k (λ same. omega arith)) (none_low num b k xs all.1 low)

-- what is found first
first_found : {X : Type 0} (num : X → ℕ) (x : X) (xs : List X) (k : ℕ) → num x ≡ k → under num (x ∷ xs) k ≡ Some x
first_found num x xs k same = rw (eq-eqb (num x) k same) refl

later_found : {X : Type 0} (num : X → ℕ) (x : X) (xs : List X) (k : ℕ) → (num x ≡ k → ⊥) → under num (x ∷ xs) k ≡ under num xs k
later_found num x xs k other = rw (ne_eqb (num x) k other) refl

-- it has the number
pub found_number : {X : Type 0} (num : X → ℕ) (xs : List X) (k : ℕ) (x : X) → under num xs k ≡ Some x → num x ≡ k
found_number num [] k x found = cc found
found_number num (y ∷ xs) k x found = elim (cases_eq (num y) k) [
  | inl same ↦
      let is : y ≡ x = same_Some y x (sym (first_found num y xs k same) ∙ found) in
      sym (ap num is) ∙ same
  | inr other ↦ found_number num xs k x (sym (later_found num y xs k other) ∙ found)
]

-- what holds of all holds of what is found
pub found_holds : {X : Type 0} (num : X → ℕ) (P : X → Type 0) (xs : List X) (k : ℕ) (x : X) → AllByRecursion P xs → under num xs k ≡ Some x → P x
found_holds num P [] k x all found = cc found
found_holds num P (y ∷ xs) k x all found = elim (cases_eq (num y) k) [
  | inl same ↦ subst P (same_Some y x (sym (first_found num y xs k same) ∙ found)) all.0
  | inr other ↦ found_holds num P xs k x all.1 (sym (later_found num y xs k other) ∙ found)
]

-- and what holds of each that is found holds of all
pub all_found : {X : Type 0} (num : X → ℕ) (P : X → Type 0) (xs : List X) → Rises num xs → ((k : ℕ) (x : X) → under num xs k ≡ Some x → P x) → AllByRecursion P xs
all_found num P [] rises each = tt
all_found num P (x ∷ xs) rises each = (
  each (num x) x (first_found num x xs (num x) refl),
  all_found num P xs rises.1 (λ k y found.
      let number = found_number num xs k y found in
      let above : num x < num y = found_holds num (λ z. num x < num z) xs k y rises.0 found in
      each k y (later_found num x xs k (λ same. omega arith) ∙ found)),
)

-- two lists under whose numbers the same is found are one
pub same_by_number : {X : Type 0} (num : X → ℕ) (xs ys : List X) → Rises num xs → Rises num ys → ((k : ℕ) → under num xs k ≡ under num ys k) → xs ≡ ys
same_by_number num [] [] rx ry same = refl
same_by_number num [] (y ∷ ys) rx ry same = cc (same (num y) ∙ first_found num y ys (num y) refl)
same_by_number num (x ∷ xs) [] rx ry same = cc (sym (first_found num x xs (num x) refl) ∙ same (num x))
same_by_number num (x ∷ xs) (y ∷ ys) rx ry same = elim (cases_order (num x) (num y)) [
  | inl level ↦
      let is : x ≡ y = same_Some x y (sym (first_found num x xs (num x) refl) ∙ same (num x) ∙ first_found num y ys (num x) (sym level)) in
      ap₂ (λ (z : _) zs. z ∷ zs) is (same_by_number num xs ys rx.1 ry.1 (λ k. rest level k))
  | inr apart ↦ elim apart [
    | inl low ↦ cc (sym (first_found num x xs (num x) refl) ∙ same (num x) ∙ none_low num (num x) (num x) (y ∷ ys) (low, above (num x) (num y) ys low ry.0) (omega arith))
    | inr high ↦ cc (sym (first_found num y ys (num y) refl) ∙ sym (same (num y)) ∙ none_low num (num y) (num y) (x ∷ xs) (high, above (num y) (num x) xs high rx.0) (omega arith))
  ]
]
  where
    above : (b c : ℕ) (zs : List _) → b < c → AllByRecursion (λ z. c < num z) zs → AllByRecursion (λ z. b < num z) zs
    above b c [] lt all = tt
    above b c (z ∷ zs) lt all =
        let next : c < num z = all.0 in
        (omega arith, above b c zs lt all.1)

    rest : num x ≡ num y → (k : ℕ) → under num xs k ≡ under num ys k
    rest level k = elim (cases_eq (num x) k) [
      | inl here ↦ none_low num (num x) k xs rx.0 (omega arith) ∙ sym (none_low num (num y) k ys ry.0 (omega arith))
      | inr other ↦ sym (later_found num x xs k other) ∙ same k ∙ later_found num y ys k (λ e. other (level ∙ e))
    ]

-- a list of numbers in order
pub rises_from_sorted : {X : Type 0} (num : X → ℕ) (xs : List X) → IsStrictlySortedBy nat_cmp (map num xs) → Rises num xs
unfolding IsStrictlySortedBy
rises_from_sorted num [] h = tt
rises_from_sorted num (x ∷ xs) h = (above (num x) xs h.0, rises_from_sorted num xs h.1)
  where
    below : (b c : ℕ) → nat_cmp b c ≡ Less → b < c
    below b c less = grind (arith, nat_tests)

    above : (b : ℕ) (ys : List _) → AllByRecursion (λ y. nat_cmp b y ≡ Less) (map num ys) → AllByRecursion (λ y. b < num y) ys
    above b [] all = tt
    above b (y ∷ ys) all =
        let less : nat_cmp b (num y) ≡ Less = all.0 in
        (below b (num y) less, above b ys all.1)

-- what is found in a list whose elements are made of another's, with the same numbers
pub found_map : {X Y : Type 0} (num : X → ℕ) (key : Y → ℕ) (f : Y → X) → ((y : Y) → num (f y) ≡ key y) → (ys : List Y) (k : ℕ)
    → under num (map f ys) k ≡ option_map f (under key ys k)
found_map num key f same [] k = refl
found_map num key f same (y ∷ ys) k = elim (cases_eq (key y) k) [
  | inl here ↦ first_found num (f y) (map f ys) k (same y ∙ here) ∙ sym (ap (option_map f) (first_found key y ys k here))
  | inr other ↦
      later_found num (f y) (map f ys) k (λ e. other (sym (same y) ∙ e)) ∙ found_map num key f same ys k
      ∙ sym (ap (option_map f) (later_found key y ys k other))
]

pub rises_map : {X Y : Type 0} (num : X → ℕ) (key : Y → ℕ) (f : Y → X) → ((y : Y) → num (f y) ≡ key y) → (ys : List Y) → Rises key ys → Rises num (map f ys)
rises_map num key f same [] rises = tt
rises_map num key f same (y ∷ ys) rises = (by y ys rises.0, rises_map num key f same ys rises.1)
  where
    by : (x : _) (zs : List _) → AllByRecursion (λ z. key x < key z) zs → AllByRecursion (λ z. num (f x) < num z) (map f zs)
    by x [] all = tt
    by x (z ∷ zs) all =
        let next : key x < key z = all.0 in
        let left = same x in
        let right = same z in
        (omega (arith, left, right), by x zs all.1)
