-- The mentions of a facet are in order; where all changes are final, none is before another.
use Rattle.std.proofs.Common.{◌≤◌, nat_lt, reverse, sym, ap, subst, ◌∙◌, arith}
use Rattle.std.specs.List.{filter}
use Rattle.std.specs.List.Sorted.{IsNonDecreasingBy}
use Rattle.keep_journal.specs.History.{final_number, last_change}
use Rattle.keep_touch.specs.Finding.{first_writer}
use Rattle.keep_touch.proofs.Rising.{noted_in_order, noted_in_order_after}
use Rattle.keep_touch.proofs.Searching.{earlier_none, last_writer_found}
use Rattle.keep_touch.proofs.touch.Touch.before.Goals as goal

pub returns-then-last_change-last_final : goal.returns-then-last_change-last_final
returns-then-last_change-last_final c =
    let all_final : last_change c.args.history.now.journal ≤ final_number c.args.history.now.journal = omega arith in
    ap (λ ns. first_writer c.args.facet (reverse ns)) (sym (earlier_none c.args.history.now.journal c.args.n c.last_change.ensures.numbered all_final))

pub above-requires : goal.above-requires
above-requires c = subst (IsNonDecreasingBy (λ m. m.number)) (sym c.list.ensures)
    (noted_in_order c.args.self.now c.args.history.now.journal c.args.facet c.requires c.last_change.ensures.numbered)

pub below-requires : goal.below-requires
below-requires c = subst (IsNonDecreasingBy (λ m. m.number)) (sym (c.above.ensures ∙ ap (filter (λ m. nat_lt c.final_number-last_final.result m.number)) c.list.ensures))
    (noted_in_order_after c.args.self.now c.args.history.now.journal c.args.facet c.final_number-last_final.result c.requires c.last_change.ensures.numbered)

pub returns : goal.returns
returns c = last_writer_found c.args.self.now c.args.history.now.journal c.args.facet c.args.n c.final_number-last_final.result
    c.list.result.now c.above.result.now c.below.result.now c.last_writing.result
    c.last_writing.ensures c.below.ensures c.above.ensures c.list.ensures c.final_number-last_final.ensures c.requires c.last_change.ensures.numbered
