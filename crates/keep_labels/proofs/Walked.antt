-- The walk over rows, by numbers, is the walk over their snapshots, by groups.
use Rattle.std.proofs.Common.{◌≡◌, ℕ, ◌+◌, Bool, true, false, not, cond, ◌&&◌, nat_lt, List, [], ◌∷◌, ◌++◌, get_or, map, Option, None, Some, Ordering, is_eq, is_lt, nat_cmp, refl, sym, ap, ◌∙◌, arith, append-nil}
use Rattle.std.proofs.lemmas.Cmp.{nat_cmp_total, on_total, then_total}
use Rattle.std.proofs.lemmas.List.Elements.{recursion_from_All}
use Rattle.std.specs.Cmp.{IsTotalOrder}
use Rattle.std.specs.List.{AllByRecursion}
use Rattle.std.specs.List.Sorted.{IsSortedBy}
use Rattle.std.specs.Ordering.{on, ordering_then, then_cmp}
use Rattle.keep_names.specs.Orders.{id_cmp}
use Rattle.keep_names.specs.declared.id.Id.{Id}
use Rattle.keep_snap.specs.Facts.{FactsData}
use Rattle.keep_labels.specs.Keeping.{EachOnce}
use Rattle.keep_labels.specs.Orders.{age_cmp, group_cmp, period_cmp, sorting_cmp, later_first_cmp}
use Rattle.keep_labels.specs.Walk.{Rises, names_counted}
use Rattle.keep_labels.specs.declared.order.Counted.{Counted}
use Rattle.keep_labels.specs.declared.group_row.Row.{Row}
use Rattle.keep_labels.proofs.Chosen.{chosen, name_of, put, seen_with}
use Rattle.keep_labels.proofs.Counting.{age_total, names_chosen, period_total}
use Rattle.keep_labels.proofs.Lists.{all_with}
use Rattle.keep_labels.proofs.Numbered.{Agree, Grouped, row_pair, row_view}
use Rattle.keep_labels.proofs.Sorting.{climbs_sorted, rises_once}
use Rattle.keep_labels.proofs.Counting.{sorting_total}

abbrev pub row_name : Row → Id
row_name row = row.facts.now.name

abbrev pub row_group : Row → Row → Ordering
row_group = on (λ (r : Row). r.group) nat_cmp

abbrev pub row_turn : Counted → Row → Row → Ordering
row_turn counted = then_cmp row_group (on row_view (period_cmp counted))

abbrev pub row_cmp : Counted → Row → Row → Ordering
row_cmp counted = then_cmp (row_turn counted) (on row_view age_cmp)

pub row_total : (counted : Counted) → IsTotalOrder (row_cmp counted)
row_total counted =
    then_total (then_total (on_total (λ (r : Row). r.group) nat_cmp_total) (on_total row_view (period_total counted))) (on_total row_view age_total)

turn_same : (counted : Counted) (a b : Row) → Agree (row_pair a) (row_pair b) → row_turn counted a b ≡ later_first_cmp counted (row_view a) (row_view b)
turn_same counted a b agree = ap (λ o. ordering_then o (period_cmp counted (row_view a) (row_view b))) agree

-- ---- the sort

pub sorted_rises : (counted : Counted) (rows : List Row) → ((s : FactsData) → is_eq (id_cmp s.name s.name) ≡ true) → Grouped rows
    → IsSortedBy (λ a b. is_lt (row_cmp counted a b)) rows → EachOnce (map row_view rows) → Rises (sorting_cmp counted) (map row_view rows)
sorted_rises counted rows own grouped sorted once =
    let same : (a b : Row) → Agree (row_pair a) (row_pair b) → row_cmp counted a b ≡ sorting_cmp counted (row_view a) (row_view b) =
    λ a b agree. ap (λ o. ordering_then o (age_cmp (row_view a) (row_view b))) (turn_same counted a b agree) in
    let by_facts : IsSortedBy (λ a b. is_lt (sorting_cmp counted (row_view a) (row_view b))) rows =
    λ k d low below. ap is_lt (sym (same (get_or rows (k + 1) d) (get_or rows k d) (grouped (k + 1) d below k d (omega arith)))) ∙ sorted k d low below in
    rises_once counted (map row_view rows) own (climbs_sorted row_view (sorting_cmp counted) (sorting_total counted) rows by_facts) once

-- ---- the walk

map_put : (b : Bool) (x : Row) (xs : List Row) → map row_view (put b x xs) ≡ put b (row_view x) (map row_view xs)
map_put true x xs = refl
map_put false x xs = refl

module _ (counted : Counted) (most : ℕ) where
  chosen_behind : (l : Row) (count : ℕ) (xs : List Row) → AllByRecursion (λ a. AllByRecursion (λ b. Agree (row_pair a) (row_pair b)) (l ∷ xs)) (l ∷ xs)
      → map row_view (chosen row_group (row_turn counted) most (Some l) count xs) ≡ chosen group_cmp (later_first_cmp counted) most (Some (row_view l)) count (map row_view xs)
  chosen_behind l count [] agree = refl
  chosen_behind l count (x ∷ xs) agree =
      let group : row_group l x ≡ group_cmp (row_view l) (row_view x) = agree.0.1.0 in
      let turn : row_turn counted l x ≡ later_first_cmp counted (row_view l) (row_view x) = turn_same counted l x agree.0.1.0 in
      let rest = all_with (λ a. AllByRecursion (λ b. Agree (row_pair a) (row_pair b)) (l ∷ x ∷ xs)) (λ a. AllByRecursion (λ b. Agree (row_pair a) (row_pair b)) (x ∷ xs)) (λ a h. h.1) (x ∷ xs) agree.1 in
      map_put (not (is_eq (row_turn counted l x)) && nat_lt (cond (is_eq (row_group l x)) count 0) most) x (chosen row_group (row_turn counted) most (Some x) (seen_with row_group (row_turn counted) (Some l) count x) xs)
      ∙ ap (put (not (is_eq (row_turn counted l x)) && nat_lt (cond (is_eq (row_group l x)) count 0) most) (row_view x))
      (chosen_behind x (seen_with row_group (row_turn counted) (Some l) count x) xs rest)
      ∙ (λ i. put (not (is_eq (turn i)) && nat_lt (cond (is_eq (group i)) count 0) most) (row_view x)
      (chosen group_cmp (later_first_cmp counted) most (Some (row_view x)) (cond (is_eq (turn i)) (cond (is_eq (group i)) count 0) (cond (is_eq (group i)) count 0 + 1)) (map row_view xs)))

  chosen_views : (rows : List Row) → AllByRecursion (λ a. AllByRecursion (λ b. Agree (row_pair a) (row_pair b)) rows) rows
      → map row_view (chosen row_group (row_turn counted) most None 0 rows) ≡ chosen group_cmp (later_first_cmp counted) most None 0 (map row_view rows)
  chosen_views [] agree = refl
  chosen_views (x ∷ xs) agree =
      map_put (nat_lt 0 most) x (chosen row_group (row_turn counted) most (Some x) (0 + 1) xs)
      ∙ ap (put (nat_lt 0 most) (row_view x)) (chosen_behind x (0 + 1) xs agree)

  names_of : (rows : List Row) → map row_name rows ≡ map name_of (map row_view rows)
  names_of [] = refl
  names_of (row ∷ rows) = ap (λ names. row_name row ∷ names) (names_of rows)

  -- the names that the walk has told at its end are those of whom the count keeps
  pub names_walked : (names : List Id) (last : Option Row) (count : ℕ) (left rows : List Row) → left ≡ []
      → names ++ map row_name (chosen row_group (row_turn counted) most last count left) ≡ map row_name (chosen row_group (row_turn counted) most None 0 rows)
      → (sorted : List Row) → rows ≡ sorted → Grouped sorted → Rises (sorting_cmp counted) (map row_view sorted) → names ≡ names_counted counted most (map row_view sorted)
  names_walked names last count left rows none rest sorted same grouped rises =
      let agree : AllByRecursion (λ a. AllByRecursion (λ b. Agree (row_pair a) (row_pair b)) sorted) sorted =
      recursion_from_All (λ a. AllByRecursion (λ b. Agree (row_pair a) (row_pair b)) sorted) sorted
      (λ k d below. recursion_from_All (λ b. Agree (row_pair (get_or sorted k d)) (row_pair b)) sorted (grouped k d below)) in
      sym (append-nil names)
      ∙ ap (λ xs. names ++ map row_name (chosen row_group (row_turn counted) most last count xs)) (sym none)
      ∙ rest
      ∙ ap (λ xs. map row_name (chosen row_group (row_turn counted) most None 0 xs)) same
      ∙ names_of (chosen row_group (row_turn counted) most None 0 sorted)
      ∙ ap (map name_of) (chosen_views sorted agree)
      ∙ names_chosen counted most (map row_view sorted) rises
