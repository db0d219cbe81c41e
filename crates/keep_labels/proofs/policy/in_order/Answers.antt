use Rattle.std.proofs.Common.{◌≡◌, Bool, List, Ordering, IsPermutation, is_lt, map, ap, subst, ◌∙◌, rules}
use Rattle.std.proofs.lemmas.Fn.{always_returns_same}
use Rattle.std.proofs.lemmas.List.Sorted.{IsPermutation-map, ranks_by}
use Rattle.keep_labels.specs.declared.order.Counted.{Counted}
use Rattle.keep_labels.specs.declared.group_row.Row.{Row}
use Rattle.keep_labels.proofs.Dropping.{own_name}
use Rattle.keep_labels.proofs.Numbered.{grouped_permuted, row_view}
use Rattle.keep_labels.proofs.Sorting.{once_permuted}
use Rattle.keep_labels.proofs.Walked.{row_cmp, row_total, sorted_rises}
use Rattle.keep_labels.proofs.policy.in_order.Goals as goal

-- the closure answers by the order
compared : (counted : Counted) (r : Ordering) (a b : Row) → r ≡ row_cmp counted a b → is_lt r ≡ is_lt (row_cmp counted a b)
compared counted r a b h = ap is_lt h

permuted : (rows copy sorted : List Row) → copy ≡ rows → IsPermutation copy sorted → IsPermutation rows sorted
permuted rows copy sorted e h = subst (λ xs. IsPermutation xs sorted) e h

pub returns-clause-same : goal.returns-clause-same
returns-clause-same c =
    let e : c.in_ok-items.items.items ≡ c.args.rows.now.items.items = c.in_ok-items.ensures.items_if_clones_equal (λ x y h. search rules) ∙ c.deref.ensures.value in
    IsPermutation-map row_view c.args.rows.now.items.items c.sort_by.new.self.items
    (permuted c.args.rows.now.items.items c.in_ok-items.items.items c.sort_by.new.self.items e c.sort_by.ensures.permutation)

pub returns-clause-rises : goal.returns-clause-rises
returns-clause-rises c =
    let counted = c.args.counted in
    let rows = c.args.rows.now.items.items in
    let sorted = c.sort_by.new.self.items in
    let e : c.in_ok-items.items.items ≡ rows = c.in_ok-items.ensures.items_if_clones_equal (λ x y h. search rules) ∙ c.deref.ensures.value in
    let same : IsPermutation rows sorted = permuted rows c.in_ok-items.items.items sorted e c.sort_by.ensures.permutation in
    let Lt : Row → Row → Bool = λ a b. is_lt (row_cmp counted a b) in
    sorted_rises counted sorted own_name (grouped_permuted rows sorted same c.args.rows.now.grouped)
    (c.in_ok-sort_by.ensures.sorted Lt (ranks_by (row_total counted) (λ (row : Row). row))
    (always_returns_same _ _ _ (λ a r f' h. (compared counted r a.0.now a.1.0.now (search rules), search rules))))
    (once_permuted (map row_view rows) (map row_view sorted) (IsPermutation-map row_view rows sorted same) c.requires)
