-- What is seen of the later changes, one by one.
use Rattle.std.proofs.Common.{◌≡◌, ℕ, zero, suc, ◌+◌, ◌≤◌, ◌==◌, Bool, true, false, cond, inl, inr, List, [], ◌∷◌, ◌++◌, length, Option, Some, None, refl, subst, ap, ◌∙◌, arith}
use Rattle.std.proofs.lemmas.Bool.{cases_lt}
use Rattle.std.proofs.lemmas.List.Elements.{All-filter}
use Rattle.std.proofs.lemmas.Option.{same_Some}
use Rattle.std.specs.List.{All, find}
use Rattle.std.specs.Option.{option_map}
use Rattle.keep_change.specs.Fold.{Numbered}
use Rattle.keep_change.specs.Form.{IsWellFormed}
use Rattle.keep_change.specs.Law.{HaveNoFacetTwice}
use Rattle.keep_change.specs.Limits.{facet_limit}
use Rattle.keep_change.specs.Touch.{facets}
use Rattle.keep_change.specs.declared.change.Change.{Change}
use Rattle.keep_change.proofs.History.{once_of_well_formed}
use Rattle.keep_journal.specs.History.{last_change, change_of, committed, IsNumbered}
use Rattle.keep_journal.specs.Journal.{Journal}
use Rattle.keep_journal.specs.Kept.{chosen, is_kept, kept_change, later}
use Rattle.keep_journal.specs.Opening.{AreWellFormed, AreWithinLimit}
use Rattle.keep_journal.proofs.Commits.{some_change}
use Rattle.keep_journal.proofs.Kept.{later_below, later_next}

-- ---- well formed

-- what holds of each change holds of the one that is found
found_change : (P : Change → Type 0) (p : Numbered → Bool) (ns : List Numbered) (c : Change) → All (λ n. P n.change) ns
    → option_map (λ n. n.change) (find p ns) ≡ Some c → P c
found_change P p [] c all e = cc e
found_change P p (n ∷ ns) c all e =
    first_or_later (p n) (found_change P p ns c (λ k d within. all (suc k) d (omega arith))) e
  where
    first_or_later : (b : Bool) → (option_map (λ n. n.change) (find p ns) ≡ Some c → P c) → option_map (λ n. n.change) (cond b (Some n) (find p ns)) ≡ Some c → P c
    first_or_later true rest is = subst P (same_Some n.change c is) (all zero n (omega arith))
    first_or_later false rest is = rest is

-- a change of a history whose changes are well formed is well formed
pub well_formed_change : (j : Journal) (n : ℕ) (c : Change) → AreWellFormed j → change_of j n ≡ Some c → IsWellFormed c
well_formed_change j n c formed is_c = found_change IsWellFormed (λ m. m.number == n) (committed j) c formed is_c

-- and one of a history whose changes are within the limit is within it
pub within_change : (j : Journal) (n : ℕ) (c : Change) → AreWithinLimit j → change_of j n ≡ Some c → length (facets c) ≤ facet_limit
within_change j n c within is_c = found_change (λ d. length (facets d) ≤ facet_limit) (λ m. m.number == n) (committed j) c within is_c

-- no chosen change has a facet twice
pub no_facet_twice : (test : ℕ → Bool) (j : Journal) → AreWellFormed j → HaveNoFacetTwice (chosen test j)
no_facet_twice test j formed =
    once_of_well_formed (chosen test j) (All-filter (λ n. test n.number) (λ n. IsWellFormed n.change) (committed j) formed)

-- ---- kept changes

kept_if_there : (b : Bool) (o : Option Change) (c : Change) → cond b o None ≡ Some c → (b ≡ true) × (o ≡ Some c)
kept_if_there true o c e = (refl, e)
kept_if_there false o c e = cc e

-- a kept change is a change
pub a_kept_change : (j : Journal) (n : ℕ) (c : Change) → kept_change j n ≡ Some c → (is_kept j n ≡ true) × (change_of j n ≡ Some c)
a_kept_change j n c e = kept_if_there (is_kept j n) (change_of j n) c e

-- ---- the later changes, one by one

next_out : (b : Bool) (o : Option Change) (c : Change) (ns : List Numbered) → o ≡ Some c → cond b o None ≡ None → (x : Numbered) → cond b (x ∷ []) [] ++ ns ≡ ns
next_out true o c ns is_c e x = cc (is_c, e)
next_out false o c ns is_c e x = refl

-- one that isn't kept is none of them
pub later_without : (j : Journal) (n k : ℕ) → IsNumbered j → k ≡ n + 1 → k ≤ last_change j → kept_change j k ≡ None → later j n ≡ later j k
later_without j n k numbered next within e = elim (cases_lt j.base k) [
  | inl above ↦
      let there = some_change j k numbered above within in
      later_next j n k there.0 numbered next there.1
      ∙ next_out (is_kept j k) (change_of j k) there.0 (later j k) there.1 e (record { number = k; change = there.0 })
  | inr below ↦ later_below j n k numbered next below
]

-- and one that is kept is the first of them
pub later_with : (j : Journal) (n k : ℕ) (c : Change) → IsNumbered j → k ≡ n + 1 → kept_change j k ≡ Some c → later j n ≡ record { number = k; change = c } ∷ later j k
later_with j n k c numbered next e =
    let parts = a_kept_change j k c e in
    later_next j n k c numbered next parts.1
    ∙ ap (λ b. cond b (record { number = k; change = c } ∷ []) [] ++ later j k) parts.0
