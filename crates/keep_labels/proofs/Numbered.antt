-- Rows whose numbers compare as their groups do.
use Rattle.std.proofs.Common.{◌≡◌, ℕ, ◌+◌, ◌<◌, false, cond, List, [], ◌∷◌, map, All, Option, None, Some, IsPermutation, Ordering, Less, Equal, Greater, is_eq, is_lt, nat_cmp, refl, sym, ap, subst, ◌∙◌, arith, true≢false}
use Rattle.std.proofs.lemmas.Cmp.{alike_right, nat_cmp_total, ranked, tied_itself}
use Rattle.std.proofs.lemmas.List.Elements.{All-from_recursion, All-weaker}
use Rattle.std.proofs.lemmas.List.Sorted.{All-permutation}
use Rattle.std.specs.Cmp.{nat_cmp_is}
use Rattle.std.specs.List.{AllByRecursion}
use Rattle.std.specs.Ordering.{ordering_reverse}
use Rattle.keep_snap.specs.Facts.{FactsData}
use Rattle.keep_labels.specs.Orders.{group_cmp}
use Rattle.keep_labels.specs.Walk.{follows, seen_view}
use Rattle.keep_labels.specs.declared.group_row.Row.{Row}
use Rattle.keep_labels.proofs.Counting.{group_total}
use Rattle.keep_labels.proofs.Lists.{all_both, all_with}
use Rattle.keep_labels.proofs.Sorting.{Climbs}

abbrev pub row_view : Row → FactsData
row_view row = seen_view row.facts

abbrev pub row_pair : Row → ℕ × FactsData
row_pair row = (row.group, seen_view row.facts)

abbrev pub Agree : ℕ × FactsData → ℕ × FactsData → Type 0
Agree p q = nat_cmp p.0 q.0 ≡ group_cmp p.1 q.1

abbrev pub Grouped : List Row → Type 0
Grouped rows = All (λ a. All (λ b. Agree (row_pair a) (row_pair b)) rows) rows

pub grouped_permuted : (xs ys : List Row) → IsPermutation xs ys → Grouped xs → Grouped ys
grouped_permuted xs ys same grouped =
    All-permutation (λ a. All (λ b. Agree (row_pair a) (row_pair b)) ys) xs ys same
    (All-weaker (λ a. All (λ b. Agree (row_pair a) (row_pair b)) xs) (λ a. All (λ b. Agree (row_pair a) (row_pair b)) ys)
    (λ a h. All-permutation (λ b. Agree (row_pair a) (row_pair b)) xs ys same h) xs grouped)

-- ---- the numbers that are given

abbrev pub next_number : ℕ → Option FactsData → FactsData → ℕ
next_number n last x = cond (follows group_cmp last x) n (n + 1)

-- each with its number, behind a last one of this number
abbrev pub numbered : ℕ → Option FactsData → List FactsData → List (ℕ × FactsData)
numbered n last [] = []
numbered n last (x ∷ xs) = (next_number n last x, x) ∷ numbered (next_number n last x) (Some x) xs

all_numbered : (P : FactsData → Type 0) (n : ℕ) (last : Option FactsData) (xs : List FactsData) → AllByRecursion P xs
    → AllByRecursion (λ (p : ℕ × FactsData). P p.1) (numbered n last xs)
all_numbered P n last [] h = tt
all_numbered P n last (x ∷ xs) h = (h.0, all_numbered P (next_number n last x) (Some x) xs h.1)

numbered_views : (n : ℕ) (last : Option FactsData) (xs : List FactsData) → map (λ (p : ℕ × FactsData). p.1) (numbered n last xs) ≡ xs
numbered_views n last [] = refl
numbered_views n last (x ∷ xs) = ap (λ ys. x ∷ ys) (numbered_views (next_number n last x) (Some x) xs)

pair_views : (rows : List Row) → map (λ (p : ℕ × FactsData). p.1) (map row_pair rows) ≡ map row_view rows
pair_views [] = refl
pair_views (row ∷ rows) = ap (λ ys. row_view row ∷ ys) (pair_views rows)

pub views_numbered : (rows : List Row) (xs : List FactsData) → map row_pair rows ≡ numbered 0 None xs → map row_view rows ≡ xs
views_numbered rows xs e = sym (pair_views rows) ∙ ap (map (λ (p : ℕ × FactsData). p.1)) e ∙ numbered_views 0 None xs

-- ---- one behind another

no_less_next : (n m : ℕ) (o : Ordering) → o ≡ nat_cmp (n + 1) m → is_lt (ordering_reverse o) ≡ false → nat_cmp n m ≡ Less
no_less_next n m Less e h = let above : n + 1 < m = ranked (n + 1) m Less e in sym (nat_cmp_is n m Less (omega arith))
no_less_next n m Equal e h = let same : n + 1 ≡ m = ranked (n + 1) m Equal e in sym (nat_cmp_is n m Less (omega arith))
no_less_next n m Greater e h = absurd (true≢false h)

-- what comes behind the second comes behind the first
less_through : (x y t : FactsData) (o : Ordering) → group_cmp x y ≡ Less → group_cmp y t ≡ o → is_lt (ordering_reverse o) ≡ false → group_cmp x t ≡ Less
less_through x y t Less first e h = group_total.trans x y t first e
less_through x y t Equal first e h = sym (alike_right group_total y t x e) ∙ first
less_through x y t Greater first e h = absurd (true≢false h)

not_before : (y t : FactsData) → is_lt (group_cmp t y) ≡ false → is_lt (ordering_reverse (group_cmp y t)) ≡ false
not_before y t h = ap is_lt (sym (group_total.antisymm t y)) ∙ h

agree_next : (n : ℕ) (x y : FactsData) (o : Ordering) → group_cmp x y ≡ o → is_lt (group_cmp y x) ≡ false
    → Agree (n, x) (cond (is_eq o) n (n + 1), y)
agree_next n x y Less e h = sym (nat_cmp_is n (n + 1) Less (omega arith)) ∙ sym e
agree_next n x y Equal e h = tied_itself nat_cmp_total n ∙ sym e
agree_next n x y Greater e h = absurd (true≢false (ap is_lt (sym (group_total.antisymm y x ∙ ap ordering_reverse e)) ∙ h))

agree_behind : (n : ℕ) (x y : FactsData) (o : Ordering) (p : ℕ × FactsData) → group_cmp x y ≡ o → is_lt (group_cmp y x) ≡ false
    → is_lt (group_cmp p.1 y) ≡ false → Agree (cond (is_eq o) n (n + 1), y) p → Agree (n, x) p
agree_behind n x y Less p e h after agree =
    let late : is_lt (ordering_reverse (group_cmp y p.1)) ≡ false = not_before y p.1 after in
    no_less_next n p.0 (group_cmp y p.1) (sym agree) late ∙ sym (less_through x y p.1 (group_cmp y p.1) e refl late)
agree_behind n x y Equal p e h after agree = agree ∙ sym (group_total.congr x y p.1 e)
agree_behind n x y Greater p e h after agree = absurd (true≢false (ap is_lt (sym (group_total.antisymm y x ∙ ap ordering_reverse e)) ∙ h))

-- ---- all of them

agree_first : (n : ℕ) (x : FactsData) (xs : List FactsData) → Climbs group_cmp (x ∷ xs) → AllByRecursion (Agree (n, x)) (numbered n (Some x) xs)
agree_first n x [] climbs = tt
agree_first n x (y ∷ ys) climbs =
    let m : ℕ = next_number n (Some x) y in (
      agree_next n x y (group_cmp x y) refl climbs.0.0,
      all_both (λ (p : ℕ × FactsData). is_lt (group_cmp p.1 y) ≡ false) (Agree (m, y)) (Agree (n, x))
          (λ p after agree. agree_behind n x y (group_cmp x y) p refl climbs.0.0 after agree)
          (numbered m (Some y) ys) (all_numbered (λ t. is_lt (group_cmp t y) ≡ false) m (Some y) ys climbs.1.0) (agree_first m y ys climbs.1),
    )

agree_back : (p q : ℕ × FactsData) → Agree p q → Agree q p
agree_back p q agree = nat_cmp_total.antisymm q.0 p.0 ∙ ap ordering_reverse agree ∙ sym (group_total.antisymm q.1 p.1)

agree_all : (n : ℕ) (last : Option FactsData) (xs : List FactsData) → Climbs group_cmp xs
    → AllByRecursion (λ p. AllByRecursion (Agree p) (numbered n last xs)) (numbered n last xs)
agree_all n last [] climbs = tt
agree_all n last (x ∷ xs) climbs =
    let m : ℕ = next_number n last x in
    let first : AllByRecursion (Agree (m, x)) (numbered m (Some x) xs) = agree_first m x xs climbs in (
      (tied_itself nat_cmp_total m ∙ sym (tied_itself group_total x), first),
      all_both (Agree (m, x)) (λ p. AllByRecursion (Agree p) (numbered m (Some x) xs)) (λ p. AllByRecursion (Agree p) ((m, x) ∷ numbered m (Some x) xs))
          (λ p agree others. (agree_back (m, x) p agree, others)) (numbered m (Some x) xs) first (agree_all m (Some x) xs climbs.1),
    )

of_pairs : (P : ℕ × FactsData → Type 0) (rows : List Row) → AllByRecursion P (map row_pair rows) → AllByRecursion (λ row. P (row_pair row)) rows
of_pairs P [] h = tt
of_pairs P (row ∷ rows) h = (h.0, of_pairs P rows h.1)

pub numbers_agree : (rows : List Row) (xs : List FactsData) → map row_pair rows ≡ numbered 0 None xs → Climbs group_cmp xs → Grouped rows
numbers_agree rows xs e climbs =
    let pairs : List (ℕ × FactsData) = map row_pair rows in
    let all : AllByRecursion (λ p. AllByRecursion (Agree p) pairs) pairs =
    subst (λ (ps : List (ℕ × FactsData)). AllByRecursion (λ p. AllByRecursion (Agree p) ps) ps) (sym e) (agree_all 0 None xs climbs) in
    All-from_recursion (λ a. All (λ b. Agree (row_pair a) (row_pair b)) rows) rows
    (all_with (λ a. AllByRecursion (Agree (row_pair a)) pairs) (λ a. All (λ b. Agree (row_pair a) (row_pair b)) rows)
    (λ a h. All-from_recursion (λ b. Agree (row_pair a) (row_pair b)) rows (of_pairs (Agree (row_pair a)) rows h))
    rows (of_pairs (λ p. AllByRecursion (Agree p) pairs) rows all))
