-- Numbers that rise along a list.
use Rattle.std.proofs.Common.{ℕ, zero, suc, ◌+◌, ◌<◌, ◌≤◌, nat_lt, Bool, true, false, cond, List, [], ◌∷◌, length, get_or, Some, None, arith}
use Rattle.std.specs.List.{cons_option, filter, filter_map}
use Rattle.std.specs.List.Sorted.{IsNonDecreasingBy}
use Rattle.keep_repo.specs.declared.facet.Facet.{Facet}
use Rattle.keep_change.specs.Fold.{Numbered}
use Rattle.keep_change.specs.Touch.{touches, writes}
use Rattle.keep_journal.specs.History.{committed, CountsFrom, IsNumbered}
use Rattle.keep_journal.specs.Journal.{Journal}
use Rattle.keep_journal.specs.Kept.{later}
use Rattle.keep_touch.specs.Mentions.{mention_of, mentions, AreNoted}
use Rattle.keep_touch.specs.declared.touch.Touch.{Touch}

module _ {X : Type 0} (f : X → ℕ) where
  -- they begin at k or above, and each is above the one before
  abbrev pub Rises : ℕ → List X → Type 0
  Rises k [] = Unit {0}
  Rises k (x ∷ xs) = (k ≤ f x) × Rises (f x + 1) xs

  pub from_lower : (j k : ℕ) (xs : List X) → j ≤ k → Rises k xs → Rises j xs
  from_lower j k [] le rises = tt
  from_lower j k (x ∷ xs) le rises = (omega (arith, rises.0), rises.1)

  pub Rises-filter : (p : X → Bool) (k : ℕ) (xs : List X) → Rises k xs → Rises k (filter p xs)
  Rises-filter p k [] rises = tt
  Rises-filter p k (x ∷ xs) rises = one (p x) (Rises-filter p (f x + 1) xs rises.1)
    where
      one : (b : Bool) → Rises (f x + 1) (filter p xs) → Rises k (cond b (x ∷ filter p xs) (filter p xs))
      one true rest = (rises.0, rest)
      one false rest = from_lower k (f x + 1) (filter p xs) (omega (arith, rises.0)) rest

  all_above : (k : ℕ) (xs : List X) → Rises k xs → (i : ℕ) (d : X) → i < length xs → k ≤ f (get_or xs i d)
  all_above k [] rises i d within = absurd (omega arith)
  all_above k (x ∷ xs) rises zero d within = rises.0
  all_above k (x ∷ xs) rises (suc i) d within =
      let rest = all_above (f x + 1) xs rises.1 i d (omega arith) in omega (arith, rest, rises.0)

  pub non_decreasing : (k : ℕ) (xs : List X) → Rises k xs → IsNonDecreasingBy f xs
  non_decreasing k [] rises i j d le within = absurd (omega arith)
  non_decreasing k (x ∷ xs) rises zero zero d le within = omega arith
  non_decreasing k (x ∷ xs) rises zero (suc j) d le within =
      let above = all_above (f x + 1) xs rises.1 j d (omega arith) in omega (arith, above)
  non_decreasing k (x ∷ xs) rises (suc i) zero d le within = absurd (omega arith)
  non_decreasing k (x ∷ xs) rises (suc i) (suc j) d le within =
      non_decreasing (f x + 1) xs rises.1 i j d (omega arith) (omega arith)

pub counted_rises : (k : ℕ) (ns : List Numbered) → CountsFrom k ns → Rises (λ n. n.number) k ns
counted_rises k [] counts = tt
counted_rises k (n ∷ ns) counts =
    (omega (arith, counts.0), from_lower (λ m. m.number) (n.number + 1) (k + 1) ns (omega (arith, counts.0)) (counted_rises (k + 1) ns counts.1))

mentions_rise : (q : Facet) (k : ℕ) (ns : List Numbered) → Rises (λ n. n.number) k ns → Rises (λ m. m.number) k (filter_map (mention_of q) ns)
mentions_rise q k [] rises = tt
mentions_rise q k (n ∷ ns) rises = one (touches n.change q) (mentions_rise q (n.number + 1) ns rises.1)
  where
    one : (b : Bool) → Rises (λ m. m.number) (n.number + 1) (filter_map (mention_of q) ns)
        → Rises (λ m. m.number) k (cons_option (cond b (Some (record { number = n.number; writes = writes n.change q })) None) (filter_map (mention_of q) ns))
    one true after = (rises.0, after)
    one false after = from_lower (λ m. m.number) k (n.number + 1) (filter_map (mention_of q) ns) (omega (arith, rises.0)) after

-- the later changes rise
pub later_rises : (j : Journal) (n : ℕ) → IsNumbered j → Rises (λ m. m.number) (j.base + 1) (later j n)
later_rises j n numbered =
    Rises-filter (λ m. m.number) _ (j.base + 1) (committed j) (counted_rises (j.base + 1) (committed j) numbered.commits)

-- and so do the mentions of each facet
pub noted_in_order : (touch : Touch) (j : Journal) (q : Facet) → AreNoted touch j → IsNumbered j → IsNonDecreasingBy (λ m. m.number) (mentions touch q)
noted_in_order touch j q noted numbered = rw (noted q) (non_decreasing (λ m. m.number) (j.base + 1) (filter_map (mention_of q) (committed j))
    (mentions_rise q (j.base + 1) (committed j) (counted_rises (j.base + 1) (committed j) numbered.commits)))

-- also those of them after a number
pub noted_in_order_after : (touch : Touch) (j : Journal) (q : Facet) (n : ℕ) → AreNoted touch j → IsNumbered j
    → IsNonDecreasingBy (λ m. m.number) (filter (λ m. nat_lt n m.number) (mentions touch q))
noted_in_order_after touch j q n noted numbered = rw (noted q) (non_decreasing (λ m. m.number) (j.base + 1) _
    (Rises-filter (λ m. m.number) (λ m. nat_lt n m.number) (j.base + 1) (filter_map (mention_of q) (committed j))
    (mentions_rise q (j.base + 1) (committed j) (counted_rises (j.base + 1) (committed j) numbered.commits))))
