-- Each facet is tested against the next.
use Rattle.std.proofs.Common.{rules}
use Rattle.std.specs.Ordering.{is_lt}
use Rattle.std.proofs.lemmas.List.Sorted.{answers_always}
use Rattle.keep_repo.specs.Facet.{facet_cmp}
use Rattle.keep_repo.proofs.Orders.{facet_total}
use Rattle.keep_change.proofs.Sorted.{ordered-from_adjacent}
use Rattle.keep_change.proofs.well_formedness.in_order.Goals as goal

pub returns : goal.returns
returns g c =
    let by_pair = c.is_sorted_by.ensures.cases (λ x y. is_lt (facet_cmp (g.M.Member.facet_of x) (g.M.Member.facet_of y))) (answers_always _ _ _ (λ f a r h called. search rules)) in
    ordered-from_adjacent facet_cmp facet_total g.M.Member.facet_of c.args.members.now c.is_sorted_by.result by_pair
