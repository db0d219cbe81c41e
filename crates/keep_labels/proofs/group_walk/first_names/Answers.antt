use Rattle.std.proofs.Common.{drop, ◌≡◌}
use Rattle.std.proofs.lemmas.List.{drop_all}
use Rattle.keep_labels.proofs.Walked.{names_walked}
use Rattle.keep_labels.proofs.group_walk.first_names.Goals as goal

pub returns : goal.returns
returns c =
    let rows = c.deref-row-items.result.now in
    let same : rows ≡ c.args.sorted.now.items.items = c.deref-row-items.ensures.value in
    names_walked c.args.counted c.args.most.number c.loop-row.names.items c.loop-row.last c.loop-row.count
    (drop c.loop-row.row-index rows) rows (drop_all c.loop-row.row-index rows c.loop-row-test.false) c.loop-row.invariant.rest
    c.args.sorted.now.items.items same c.args.sorted.now.grouped c.requires
