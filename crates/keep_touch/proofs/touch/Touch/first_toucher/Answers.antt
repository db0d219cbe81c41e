-- The mentions of a facet are in order.
use Rattle.std.proofs.Common.{sym, subst}
use Rattle.std.specs.List.Sorted.{IsNonDecreasingBy}
use Rattle.keep_touch.proofs.Rising.{noted_in_order}
use Rattle.keep_touch.proofs.Searching.{toucher_found}
use Rattle.keep_touch.proofs.touch.Touch.first_toucher.Goals as goal

pub above-requires : goal.above-requires
above-requires c = subst (IsNonDecreasingBy (λ m. m.number)) (sym c.list.ensures)
    (noted_in_order c.args.self.now c.args.history.now.journal c.args.facet c.requires.noted c.requires.numbered)

pub returns : goal.returns
returns c = toucher_found c.args.self.now c.args.history.now.journal c.args.facet c.args.n c.list.result.now c.above.result.now c.first_in_force.result
    c.first_in_force.ensures c.above.ensures c.list.ensures c.requires.noted c.requires.numbered
