-- Each pack is tested against the next.
use Rattle.std.proofs.Common.{rules}
use Rattle.std.proofs.lemmas.List.Sorted.{answers_always}
use Rattle.std.specs.Ordering.{is_lt}
use Rattle.keep_names.proofs.Orders.{id_total}
use Rattle.keep_names.specs.Orders.{id_cmp}
use Rattle.keep_change.proofs.Sorted.{ordered-from_adjacent}
use Rattle.keep_change.specs.declared.change.PackMark.{PackMark}
use Rattle.keep_entries.proofs.checks.are_in_order.Goals as goal

pub returns : goal.returns
returns c =
    let by_pair = c.is_sorted_by.ensures.cases (λ (x : PackMark) (y : PackMark). is_lt (id_cmp x.pack y.pack)) (answers_always _ _ _ (λ f a r h called. search rules)) in
    ordered-from_adjacent id_cmp id_total (λ (m : PackMark). m.pack) c.args.marks.now c.is_sorted_by.result by_pair
