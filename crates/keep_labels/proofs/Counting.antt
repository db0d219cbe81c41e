-- Whom each count keeps of snapshots: their orders are total, and whom the walk keeps are those.
use Rattle.std.proofs.Common.{◌≡◌, ℕ, Bool, true, false, not, ◌&&◌, nat_lt, List, filter, map, count_by, cond, Option, None, Some, IsPermutation, Ordering, Less, Equal, Greater, is_eq, is_lt, inl, inr, refl, sym, ap, ap₂, ◌∙◌}
use Rattle.std.proofs.lemmas.Cmp.{back_total, int_cmp_total, lists_total, nat_cmp_total, nat_list_cmp_total, on_total, then_total}
use Rattle.std.proofs.lemmas.List.Sorted.{list_any-IsPermutation, sum_by-IsPermutation}
use Rattle.std.specs.Cmp.{IsTotalOrder}
use Rattle.std.specs.List.{list_any}
use Rattle.std.specs.Ordering.{ordering_then, then_cmp}
use Rattle.keep_names.specs.Orders.{id_cmp}
use Rattle.keep_names.specs.contracts.id.IdOrd.TheImpl.Laws as the_id_laws
use Rattle.keep_names.specs.declared.id.Id.{Id}
use Rattle.keep_snap.specs.Facts.{FactsData}
use Rattle.keep_labels.specs.Counts.{is_among_last, is_first_of, is_newest, later_periods}
use Rattle.keep_labels.specs.Keeping.{by_count, has_passing, is_counted}
use Rattle.keep_labels.specs.Orders.{age_cmp, group_cmp, period_cmp, sorting_cmp, later_first_cmp}
use Rattle.keep_labels.specs.Walk.{Rises, names_counted}
use Rattle.keep_labels.specs.declared.order.Counted.{Counted}
use Rattle.keep_labels.specs.declared.order.Counted.TheVariants.{Snapshots, Days, Weeks, Months, Years}
use Rattle.keep_labels.proofs.Chosen.{chosen, name_of}
use Rattle.keep_labels.proofs.Kept.{is_named}
use Rattle.keep_labels.proofs.Lists.{all_always, any_filter, any_none}
use Rattle.keep_labels.proofs.Ranks.{UpTo}
use Rattle.keep_labels.proofs.Tags.{list_any-map}
use Rattle.keep_labels.proofs.Turns.{walk_keeps}

pub group_total : IsTotalOrder group_cmp
group_total = then_total (on_total (λ s. s.host) nat_list_cmp_total) (on_total (λ s. s.paths) (lists_total nat_list_cmp_total))

pub age_total : IsTotalOrder age_cmp
age_total = then_total (on_total (λ s. s.instant) (back_total int_cmp_total)) (on_total (λ s. s.name) the_id_laws.total-law)

pub period_total : (counted : Counted) → IsTotalOrder (period_cmp counted)
period_total Snapshots = age_total
period_total Days = on_total (λ s. s.day) (back_total int_cmp_total)
period_total Weeks = on_total (λ s. s.week) (back_total int_cmp_total)
period_total Months =
    then_total (on_total (λ s. s.month.year) (back_total int_cmp_total)) (on_total (λ s. s.month.month) (back_total nat_cmp_total))
period_total Years = on_total (λ s. s.year) (back_total int_cmp_total)

turn_total : (counted : Counted) → IsTotalOrder (later_first_cmp counted)
turn_total counted = then_total group_total (period_total counted)

pub sorting_total : (counted : Counted) → IsTotalOrder (sorting_cmp counted)
sorting_total counted = then_total (turn_total counted) age_total

first_upto : (o q : Ordering) → UpTo (ordering_then o q) → UpTo o
first_upto Less q h = inl refl
first_upto Equal q h = inr refl
first_upto Greater q h = h

-- ---- snapshots that are counted themselves

never_by : (o q : Ordering) → (is_eq (ordering_then o q) && is_lt q) ≡ false
never_by Less q = refl
never_by Equal Less = refl
never_by Equal Equal = refl
never_by Equal Greater = refl
never_by Greater q = refl

alone_by : (o q : Ordering) (b : Bool) → b ≡ true → (is_eq o && is_lt (ordering_then o q) && b) ≡ (is_eq o && is_lt q)
alone_by Less q b h = refl
alone_by Equal Less b h = h
alone_by Equal Equal b h = refl
alone_by Equal Greater b h = refl
alone_by Greater q b h = refl

module _ {X : Type 0} (G N : X → X → Ordering) where
  newest_alone : (all : List X) (x : X) → is_newest (then_cmp G N) N all x ≡ true
  newest_alone all x =
      let p : X → Bool = λ t. is_eq (then_cmp G N t x) && is_lt (N t x) in
      ap not (any_none p all (all_always (λ t. p t ≡ false) (λ t. never_by (G t x) (N t x)) all))

  -- where each is a period of its own, the first so many are the last so many
  last_is : (most : ℕ) (all : List X) (x : X) → is_first_of G (then_cmp G N) N most all x ≡ is_among_last G N most all x
  last_is most all x =
      ap₂ (λ b k. b && nat_lt k most) (newest_alone all x)
      (λ i. count_by (λ t. alone_by (G t x) (N t x) (is_newest (then_cmp G N) N all t) (newest_alone all t) i) all)

first_is_counted : (counted : Counted) (most : ℕ) (all : List FactsData) (s : FactsData)
    → is_first_of group_cmp (later_first_cmp counted) age_cmp most all s ≡ is_counted counted most all s
first_is_counted Snapshots most all s = last_is group_cmp age_cmp most all s
first_is_counted Days most all s = refl
first_is_counted Weeks most all s = refl
first_is_counted Months most all s = refl
first_is_counted Years most all s = refl

-- whom the walk keeps are those whom the count keeps
pub names_chosen : (counted : Counted) (most : ℕ) (all : List FactsData) → Rises (sorting_cmp counted) all
    → map name_of (chosen group_cmp (later_first_cmp counted) most None 0 all) ≡ names_counted counted most all
names_chosen counted most all rises =
    ap (map name_of) (walk_keeps group_cmp (later_first_cmp counted) age_cmp group_total (turn_total counted) age_total (λ t x h. first_upto (group_cmp t x) (period_cmp counted t x) h) most all rises)
    ∙ (λ i. map name_of (filter (λ s. first_is_counted counted most all s i) all))

-- ---- whom a count keeps doesn't hang on the order of the list

module _ {X : Type 0} (G D N : X → X → Ordering) (xs ys : List X) (same : IsPermutation xs ys) where
  newest_permuted : (x : X) → is_newest D N xs x ≡ is_newest D N ys x
  newest_permuted x = ap not (list_any-IsPermutation (λ t. is_eq (D t x) && is_lt (N t x)) xs ys same)

  later_permuted : (x : X) → later_periods G D N xs x ≡ later_periods G D N ys x
  later_permuted x =
      (λ i. count_by (λ t. is_eq (G t x) && is_lt (D t x) && newest_permuted t i) xs)
      ∙ sym (sum_by-IsPermutation (λ t. cond (is_eq (G t x) && is_lt (D t x) && is_newest D N ys t) 1 0) xs ys same)

  first_permuted : (most : ℕ) (x : X) → is_first_of G D N most xs x ≡ is_first_of G D N most ys x
  first_permuted most x = ap₂ (λ b k. b && nat_lt k most) (newest_permuted x) (later_permuted x)

counted_permuted : (counted : Counted) (most : ℕ) (xs ys : List FactsData) → IsPermutation xs ys → (s : FactsData) → is_counted counted most xs s ≡ is_counted counted most ys s
counted_permuted counted most xs ys same s =
    sym (first_is_counted counted most xs s) ∙ first_permuted group_cmp (later_first_cmp counted) age_cmp xs ys same most s ∙ first_is_counted counted most ys s

-- a name is told of the sorted snapshots if a count keeps one of this name
pub named_counted : (counted : Counted) (most : ℕ) (all sorted : List FactsData) (name : Id) → IsPermutation all sorted
    → is_named (names_counted counted most sorted) name ≡ has_passing (is_counted counted most all) all name
named_counted counted most all sorted name same =
    let p : FactsData → Bool = λ s. is_eq (id_cmp s.name name) in
    list_any-map (λ other. is_eq (id_cmp other name)) name_of (filter (is_counted counted most sorted) sorted)
    ∙ any_filter p (is_counted counted most sorted) sorted
    ∙ sym (list_any-IsPermutation (λ s. p s && is_counted counted most sorted s) all sorted same)
    ∙ sym (λ i. list_any (λ s. p s && counted_permuted counted most all sorted same s i) all)

-- nor does whether it keeps one of a name
pub passing_permuted : (counted : Counted) (most : Option ℕ) (xs ys : List FactsData) (name : Id) → IsPermutation xs ys
    → has_passing (by_count counted most ys) ys name ≡ has_passing (by_count counted most xs) xs name
passing_permuted counted None xs ys name same = sym (list_any-IsPermutation (λ s. is_eq (id_cmp s.name name) && false) xs ys same)
passing_permuted counted (Some most) xs ys name same =
    sym (list_any-IsPermutation (λ s. is_eq (id_cmp s.name name) && is_counted counted most ys s) xs ys same)
    ∙ sym (λ i. list_any (λ s. is_eq (id_cmp s.name name) && counted_permuted counted most xs ys same s i) xs)
