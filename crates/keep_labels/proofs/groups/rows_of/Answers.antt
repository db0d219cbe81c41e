use Rattle.std.proofs.Common.{◌≡◌, map, sym, ap, subst, ◌∙◌}
use Rattle.keep_snap.specs.Facts.{facts_view}
use Rattle.keep_labels.specs.Keeping.{EachOnce}
use Rattle.keep_labels.specs.Walk.{seen_view}
use Rattle.keep_labels.proofs.Numbered.{row_view}
use Rattle.keep_labels.proofs.Sorting.{once_permuted}
use Rattle.keep_labels.proofs.groups.rows_of.Goals as goal

pub returns-clause-once : goal.returns-clause-once
returns-clause-once c =
    let same : map row_view c.in_ok-rows.rows.items.items ≡ map seen_view c.in_ok-sorted.sorted.items =
    c.in_ok-rows.ensures ∙ ap (map seen_view) c.deref.ensures.value in
    subst EachOnce (sym same) (once_permuted (map facts_view c.args.taken.now) (map seen_view c.in_ok-sorted.sorted.items) c.in_ok-sorted.ensures.same c.requires)
