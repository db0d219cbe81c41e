-- The mentions of a facet are in order; nothing comes after the last change.
use Rattle.std.proofs.Common.{◌≤◌, sym, ap, subst, ◌∙◌, arith}
use Rattle.std.specs.List.Sorted.{IsNonDecreasingBy}
use Rattle.keep_change.specs.Holdings.{value_at}
use Rattle.keep_journal.specs.History.{last_change}
use Rattle.keep_journal.proofs.Kept.{later_none}
use Rattle.keep_touch.specs.Finding.{first_writer, held_before}
use Rattle.keep_touch.proofs.Rising.{noted_in_order}
use Rattle.keep_touch.proofs.Searching.{writer_found}
use Rattle.keep_touch.proofs.Telling.{value_told}
use Rattle.keep_touch.proofs.touch.Touch.after.Goals as goal

pub returns-then-last_change-n-clause-exact : goal.returns-then-last_change-n-clause-exact
returns-then-last_change-n-clause-exact c =
    let past : last_change c.args.history.now.journal ≤ c.args.n = omega arith in
    ap (first_writer c.args.facet) (sym (later_none c.args.history.now.journal c.args.n c.last_change.ensures.numbered past))

pub returns-then-last_change-n-clause-value : goal.returns-then-last_change-n-clause-value
returns-then-last_change-n-clause-value c end =
    let past : last_change c.args.history.now.journal ≤ c.args.n = omega arith in
    ap (λ ns. value_at ns end c.args.facet) (later_none c.args.history.now.journal c.args.n c.last_change.ensures.numbered past)

pub above-requires : goal.above-requires
above-requires c = subst (IsNonDecreasingBy (λ m. m.number)) (sym c.list.ensures)
    (noted_in_order c.args.self.now c.args.history.now.journal c.args.facet c.requires c.last_change.ensures.numbered)

pub returns-clause-exact : goal.returns-clause-exact
returns-clause-exact c = writer_found c.args.self.now c.args.history.now.journal c.args.facet c.args.n c.list.result.now c.above.result.now c.first_writing.result
    c.first_writing.ensures c.above.ensures c.list.ensures c.requires c.last_change.ensures.numbered

pub returns-clause-value : goal.returns-clause-value
returns-clause-value c end =
    value_told c.args.history.now.journal c.args.n end c.args.facet c.last_change.ensures.numbered
    ∙ ap (λ o. held_before c.args.history.now.journal o end c.args.facet) (sym (returns-clause-exact c))
