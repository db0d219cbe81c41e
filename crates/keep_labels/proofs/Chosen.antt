-- The walk as a recursion: whom a count keeps of things that stand by group, by period and by age.
use Rattle.std.proofs.Common.{ℕ, ◌+◌, Bool, not, cond, ◌&&◌, nat_lt, List, [], ◌∷◌, Option, Some, Ordering}
use Rattle.keep_names.specs.declared.id.Id.{Id}
use Rattle.keep_snap.specs.Facts.{FactsData}
use Rattle.keep_labels.specs.Walk.{follows}

abbrev pub name_of : FactsData → Id
name_of s = s.name

-- how many periods of its group were seen before it
abbrev pub seen_before : {X : Type 0} → (X → X → Ordering) → Option X → ℕ → X → ℕ
seen_before group last count x = cond (follows group last x) count 0

-- and with it
abbrev pub seen_with : {X : Type 0} → (X → X → Ordering) → (X → X → Ordering) → Option X → ℕ → X → ℕ
seen_with group turn last count x =
    cond (follows turn last x) (seen_before group last count x) (seen_before group last count x + 1)

abbrev pub takes : {X : Type 0} → (X → X → Ordering) → (X → X → Ordering) → ℕ → Option X → ℕ → X → Bool
takes group turn most last count x = not (follows turn last x) && nat_lt (seen_before group last count x) most

abbrev pub put : {X : Type 0} → Bool → X → List X → List X
put b x xs = cond b (x ∷ xs) xs

-- of what follows the last one, where so many periods of its group were seen
abbrev pub chosen : {X : Type 0} → (X → X → Ordering) → (X → X → Ordering) → ℕ → Option X → ℕ → List X → List X
chosen group turn most last count [] = []
chosen group turn most last count (x ∷ xs) =
    put (takes group turn most last count x) x (chosen group turn most (Some x) (seen_with group turn last count x) xs)
