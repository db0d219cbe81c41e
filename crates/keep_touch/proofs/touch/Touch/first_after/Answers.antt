-- Nothing comes after the last change; else the four lists of what is written are gone through.
use Rattle.std.proofs.Common.{◌≤◌, map, sym, ap, ◌∙◌, arith}
use Rattle.keep_repo.specs.declared.facet.Facet.TheVariants.{File, Mark}
use Rattle.keep_change.specs.Fold.{first_leaning}
use Rattle.keep_journal.specs.History.{last_change}
use Rattle.keep_journal.specs.Kept.{later}
use Rattle.keep_journal.proofs.Kept.{later_none}
use Rattle.keep_touch.specs.Finding.{first_among, sooner}
use Rattle.keep_touch.proofs.Searching.{leaning_found}
use Rattle.keep_touch.proofs.touch.Touch.first_after.Goals as goal

pub returns-then-last_change-n : goal.returns-then-last_change-n
returns-then-last_change-n c =
    let past : last_change c.args.history.now.journal ≤ c.args.n = omega arith in
    ap (first_leaning c.args.change.now) (sym (later_none c.args.history.now.journal c.args.n c.last_change.ensures.numbered past))

pub returns : goal.returns
returns c =
    c.sooner-3.ensures
    ∙ (λ i. sooner (c.sooner.ensures i) (c.sooner-2.ensures i))
    ∙ leaning_found c.args.history.now.journal c.args.n c.args.change.now
    c.first_of-adds.result c.first_of-drops.result c.first_of-sets.result c.first_of-clears.result c.last_change.ensures.numbered
    (c.first_of-adds.ensures ∙ ap (λ fs. first_among (map (λ f. File f.name) fs) (later c.args.history.now.journal c.args.n)) c.as_slice.ensures)
    (c.first_of-drops.ensures ∙ ap (λ fs. first_among (map (λ f. File f.name) fs) (later c.args.history.now.journal c.args.n)) c.as_slice-2.ensures)
    (c.first_of-sets.ensures ∙ ap (λ ms. first_among (map (λ m. Mark m.pack) ms) (later c.args.history.now.journal c.args.n)) c.as_slice-3.ensures)
    (c.first_of-clears.ensures ∙ ap (λ ms. first_among (map (λ m. Mark m.pack) ms) (later c.args.history.now.journal c.args.n)) c.as_slice-4.ensures)
