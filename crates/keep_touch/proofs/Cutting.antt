-- Where a list is cut by a test.
use denote.Param.Members.{Mut}
use Rattle.std.proofs.Common.{Bor, ◌≡◌, ℕ, zero, suc, ◌-◌, nat_lt, nat_le, Bool, true, false, not, List, [], ◌∷◌, length, take, drop, refl, sym, ap, ◌∙◌, arith}
use Rattle.std.proofs.lemmas.Bool.Decides.{nat_tests}
use Rattle.std.proofs.lemmas.List.{take_rest}
use Rattle.std.proofs.lemmas.List.Sorted.{IsPartitionedBy-leb, IsPartitionedBy-ltb, IsPartitionPoint-from_clause}
use Rattle.std.specs.Fn.{Called, ComputesKey}
use Rattle.std.specs.List.{filter, AllWithin}
use Rattle.std.specs.List.Sorted.{IsNonDecreasingBy, IsPartitionedBy, IsPartitionPoint}
use Rattle.keep_touch.specs.declared.mention.Mention.{Mention}

module _ {X : Type 0} (p q : X → Bool) (other : (x : X) → q x ≡ not (p x)) where
  -- where none passes, all pass the other test, and none is left of them by this one
  none_passes : (xs : List X) → AllWithin (λ x. p x ≡ false) xs 0 (length xs) → (filter q xs ≡ xs) × (filter p xs ≡ [])
  none_passes [] all = (refl, refl)
  none_passes (x ∷ xs) all =
      let fails : p x ≡ false = all zero x (omega arith) (omega arith) in
      let passes : q x ≡ true = other x ∙ ap not fails in
      let rest = none_passes xs (λ k d low high. all (suc k) d (omega arith) (omega arith)) in
      (rw passes (ap (λ ys. x ∷ ys) rest.0), rw fails rest.1)

  pub cut_at : (i : ℕ) (xs : List X) → IsPartitionPoint (λ x. p x ≡ true) (λ x. p x ≡ false) xs i
      → (drop i xs ≡ filter q xs) × (take i xs ≡ filter p xs)
  cut_at zero xs at = let none = none_passes xs at.1 in (sym none.0, sym none.1)
  cut_at (suc i) [] at = (refl, refl)
  cut_at (suc i) (x ∷ xs) at =
      let passes : p x ≡ true = at.0 zero x (omega arith) (omega arith) in
      let fails : q x ≡ false = other x ∙ ap not passes in
      let rest = cut_at i xs (λ k d low high. at.0 (suc k) d (omega arith) (omega arith), λ k d low high. at.1 (suc k) d (omega arith) (omega arith)) in
      (rw fails rest.0, rw passes (ap (λ ys. x ∷ ys) rest.1))

-- what a search by a test of the number finds
abbrev pub FindsPoint : {F : Type 0} → Mut F (Bor Mention × Unit {0}) Bool → F → List Mention → ℕ → Type 0
FindsPoint g f ms i =
    (t : Mention → Bool) → ComputesKey g t f → IsPartitionedBy t ms → IsPartitionPoint (λ m. t m ≡ true) (λ m. t m ≡ false) ms i

-- what is left from the first with a greater number on
pub above_cut : {F : Type 0} {g : Mut F (Bor Mention × Unit {0}) Bool} {f : F} (n : ℕ) (ms : List Mention) (i : ℕ) → FindsPoint g f ms i
    → IsNonDecreasingBy (λ m. m.number) ms
    → ((a : Bor Mention × Unit {0}) (r : Bool) (f' : F) → Called g f a r f' → (r ≡ nat_le a.0.now.number n) × (f' ≡ f))
    → take (length ms - i) (drop i ms) ≡ filter (λ m. nat_lt n m.number) ms
above_cut n ms i finds ordered tests =
    take_rest ms i
    ∙ (cut_at (λ m. nat_le m.number n) (λ m. nat_lt n m.number) (λ m. other m.number) i ms
    (IsPartitionPoint-from_clause (λ m. nat_le m.number n) ms i finds (IsPartitionedBy-leb (λ m. m.number) ms n ordered) tests)).0
  where
    other : (k : ℕ) → nat_lt n k ≡ not (nat_le k n)
    other k = grind (arith, nat_tests)

-- what stands before the first whose number isn't less
pub below_cut : {F : Type 0} {g : Mut F (Bor Mention × Unit {0}) Bool} {f : F} (n : ℕ) (ms : List Mention) (i : ℕ) → FindsPoint g f ms i
    → IsNonDecreasingBy (λ m. m.number) ms
    → ((a : Bor Mention × Unit {0}) (r : Bool) (f' : F) → Called g f a r f' → (r ≡ nat_lt a.0.now.number n) × (f' ≡ f))
    → take i ms ≡ filter (λ m. nat_lt m.number n) ms
below_cut n ms i finds ordered tests =
    (cut_at (λ m. nat_lt m.number n) (λ m. not (nat_lt m.number n)) (λ m. refl) i ms
    (IsPartitionPoint-from_clause (λ m. nat_lt m.number n) ms i finds (IsPartitionedBy-ltb (λ m. m.number) ms n ordered) tests)).1
