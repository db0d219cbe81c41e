use Rattle.std.proofs.Common.{◌≡◌, Bool, List, Ordering, IsPermutation, is_lt, map, ap, subst, rules}
use Rattle.std.proofs.lemmas.Fn.{always_returns_same}
use Rattle.std.proofs.lemmas.List.Sorted.{IsPermutation-map, ranks_by}
use Rattle.std.specs.Borrow.{Bor}
use Rattle.keep_snap.specs.Facts.{FactsData, facts_view}
use Rattle.keep_snap.specs.declared.fact.SnapFacts.{SnapFacts}
use Rattle.keep_labels.specs.Orders.{group_cmp}
use Rattle.keep_labels.specs.Walk.{seen_view}
use Rattle.keep_labels.proofs.Counting.{group_total}
use Rattle.keep_labels.proofs.groups.by_group.Goals as goal

-- the closure answers by the order
compared : (r : Ordering) (a b : Bor SnapFacts) → r ≡ group_cmp (facts_view a.now) (facts_view b.now)
    → is_lt r ≡ is_lt (group_cmp (seen_view a) (seen_view b))
compared r a b h = ap is_lt h

same_permuted : (all new : List FactsData) (old : List FactsData) → old ≡ all → IsPermutation old new → IsPermutation all new
same_permuted all new old e h = subst (λ xs. IsPermutation xs new) e h

pub returns-clause-same : goal.returns-clause-same
returns-clause-same c =
    same_permuted (map facts_view c.args.taken.now) (map seen_view c.sort_by.new.self.items) (map seen_view c.in_ok-sorted.sorted.items)
    c.in_ok-sorted.ensures
    (IsPermutation-map seen_view c.in_ok-sorted.sorted.items c.sort_by.new.self.items c.sort_by.ensures.permutation)

pub returns-clause-sorted : goal.returns-clause-sorted
returns-clause-sorted c =
    let Lt : Bor SnapFacts → Bor SnapFacts → Bool = λ a b. is_lt (group_cmp (seen_view a) (seen_view b)) in
    c.in_ok-sort_by.ensures.sorted Lt (ranks_by group_total seen_view)
    (always_returns_same _ _ _ (λ a r f' h. (compared r a.0.now a.1.0.now (search rules), search rules)))
