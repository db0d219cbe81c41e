-- The mentions of a facet are in order; nothing comes after the last change.
use Rattle.std.proofs.Common.{◌≤◌, nat_lt, sym, ap, subst, ◌∙◌, arith}
use Rattle.std.specs.List.{filter}
use Rattle.std.specs.List.Sorted.{IsNonDecreasingBy}
use Rattle.keep_journal.specs.History.{last_change}
use Rattle.keep_touch.proofs.Rising.{noted_in_order}
use Rattle.keep_touch.proofs.Searching.{none_after}
use Rattle.keep_touch.proofs.touch.Touch.mentions_after.Goals as goal

pub returns-then-last_change-n : goal.returns-then-last_change-n
returns-then-last_change-n c =
    let past : last_change c.args.history.now.journal ≤ c.args.n = omega arith in
    sym (none_after c.args.self.now c.args.history.now.journal c.args.facet c.args.n c.requires c.last_change.ensures.numbered past)

pub above-requires : goal.above-requires
above-requires c = subst (IsNonDecreasingBy (λ m. m.number)) (sym c.list.ensures)
    (noted_in_order c.args.self.now c.args.history.now.journal c.args.facet c.requires c.last_change.ensures.numbered)

pub returns : goal.returns
returns c = c.above.ensures ∙ ap (filter (λ m. nat_lt c.args.n m.number)) c.list.ensures
