-- Whom a count keeps, over any things that have an order of groups, one of turns, by which the things of a group
-- stand period by period, the later first, and one of ages, the newer first.
use Rattle.std.specs.Prelude.{ℕ, Bool, not, ◌&&◌, List, nat_lt, count_by}
use Rattle.std.specs.List.{list_any}
use Rattle.std.specs.Ordering.{is_eq, is_lt}
use Rattle.std.specs.declared.cmp.Ordering.{Ordering}

-- none of its group and period is newer
abbrev pub is_newest : {X : Type 0} → (X → X → Ordering) → (X → X → Ordering) → List X → X → Bool
is_newest turn age all x = not (list_any (λ t. is_eq (turn t x) && is_lt (age t x)) all)

-- how many later periods of its group have one; each is counted by its newest
abbrev pub later_periods : {X : Type 0} → (X → X → Ordering) → (X → X → Ordering) → (X → X → Ordering) → List X → X → ℕ
later_periods group turn age all x =
    count_by (λ t. is_eq (group t x) && is_lt (turn t x) && is_newest turn age all t) all

-- it is the newest of its period, and fewer later periods of its group have one
abbrev pub is_first_of : {X : Type 0} → (X → X → Ordering) → (X → X → Ordering) → (X → X → Ordering) → ℕ
    → List X → X → Bool
is_first_of group turn age most all x =
    is_newest turn age all x && nat_lt (later_periods group turn age all x) most

-- fewer of its group are newer
abbrev pub is_among_last : {X : Type 0} → (X → X → Ordering) → (X → X → Ordering) → ℕ → List X → X → Bool
is_among_last group age most all x = nat_lt (count_by (λ t. is_eq (group t x) && is_lt (age t x)) all) most
