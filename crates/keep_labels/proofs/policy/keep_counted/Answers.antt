use Rattle.std.proofs.Common.{[], drop, map, ◌∙◌}
use Rattle.std.proofs.lemmas.List.{drop_all}
use Rattle.std.specs.BTreeSet.{contains}
use Rattle.keep_names.specs.Orders.{id_cmp}
use Rattle.keep_labels.proofs.Dropping.{counted_kept, none_kept}
use Rattle.keep_labels.proofs.Kept.{name_put}
use Rattle.keep_labels.proofs.Numbered.{row_view}
use Rattle.keep_labels.proofs.policy.keep_counted.Goals as goal

pub returns-in_default : goal.returns-in_default
returns-in_default c = λ name.
    none_kept c.args.counted c.args.most (map row_view c.args.rows.now.items.items) name (contains id_cmp c.args.kept.now name) c.in_default.is

pub loop-name-preserved : goal.loop-name-preserved
loop-name-preserved c = λ name.
    name_put c.deref-name-items.result.now c.loop-name.name-index (record { 0 = [] }) name _ _ _ c.loop-name-test.true
    (c.in_ok-insert.ensures.updates.0 name) (c.loop-name.invariant name)

pub returns : goal.returns
returns c = λ name.
    let names = c.deref-name-items.result.now in
    counted_kept c.args.counted c.args.most c.in-Some.most (map row_view c.args.rows.now.items.items) (map row_view c.in_ok-sorted.sorted.items.items)
    names (drop c.loop-name.name-index names) name _ _ c.in-Some.is c.in_ok-sorted.ensures.same
    (c.deref-name-items.ensures.value ∙ c.in_ok-names.ensures)
    (drop_all c.loop-name.name-index names c.loop-name-test.false) (c.loop-name.invariant name)
