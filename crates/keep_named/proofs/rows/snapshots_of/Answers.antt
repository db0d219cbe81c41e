use Rattle.std.proofs.Common.{◌≡◌, Bool, List, Ordering, IsPermutation, is_lt, map, ap, subst, sym, ◌∙◌, rules}
use Rattle.std.proofs.lemmas.Fn.{always_returns_same}
use Rattle.std.proofs.lemmas.List.Sorted.{IsPermutation-map, ranks_by}
use Rattle.keep_named.specs.Rows.{RowData, moment_cmp, row_view, rows_in, rows_of}
use Rattle.keep_named.specs.declared.listed_snapshot.ListedSnapshot.{ListedSnapshot}
use Rattle.keep_named.proofs.Ordered.{moment_total}
use Rattle.keep_named.proofs.rows.snapshots_of.Goals as goal

-- the closure answers by the order
compared : (r : Ordering) (a b : ListedSnapshot) → r ≡ moment_cmp (row_view a) (row_view b) → is_lt r ≡ is_lt (moment_cmp (row_view a) (row_view b))
compared r a b h = ap is_lt h

same_permuted : (all new : List RowData) (old : List RowData) → old ≡ all → IsPermutation old new → IsPermutation all new
same_permuted all new old e h = subst (λ xs. IsPermutation xs new) e h

pub returns-clause-same : goal.returns-clause-same
unfolding rows_in
returns-clause-same c =
    same_permuted (rows_in c.args.history.now.journal c.args.catalog.now) (map row_view c.sort_by.new.self.items) (map row_view c.in_ok-rows.rows.items)
    (c.in_ok-rows.ensures ∙ ap (rows_of c.args.history.now.journal) c.snaps.ensures.all)
    (IsPermutation-map row_view c.in_ok-rows.rows.items c.sort_by.new.self.items c.sort_by.ensures.permutation)

pub returns-clause-sorted : goal.returns-clause-sorted
returns-clause-sorted c =
    let Lt : ListedSnapshot → ListedSnapshot → Bool = λ a b. is_lt (moment_cmp (row_view a) (row_view b)) in
    c.in_ok-sort_by.ensures.sorted Lt (ranks_by moment_total row_view)
    (always_returns_same _ _ _ (λ a r f' h. (compared r a.0.now a.1.0.now (search rules), search rules)))
