-- A mark that is as asked changes nothing, and another one is taken with the least before it.
use Rattle.std.proofs.Common.{◌≡◌, [], not, Some, sym, ap, ◌∙◌, get_or}
use Rattle.std.proofs.Math.IntN.{pos}
use Rattle.std.proofs.lemmas.List.{get_or_default}
use Rattle.keep_repo.specs.Facet.{Marked}
use Rattle.keep_repo.specs.declared.facet.Facet.TheVariants.{Mark}
use Rattle.keep_change.specs.Change.{holds_same}
use Rattle.keep_change.specs.declared.change.PackMark.{PackMark}
use Rattle.keep_change.proofs.Least.{least_taken, least_kept}
use Rattle.keep_change.proofs.meets.least_other_mark.Goals as goal
use Rattle.keep_change.proofs.meets.least_other_mark.Goals.{then-not-has_mark, else-not-has_mark}

-- any mark, to be named where a list has none
abbrev some_mark : PackMark
some_mark = record { pack = record { 0 = [] }; mark = record { moment = pos 0 } }

pub loop-set-preserved : goal.loop-set-preserved
loop-set-preserved g c =
    let item : PackMark = get_or c.args.marks.now c.loop-set.set-index some_mark in
    let item-is : item ≡ get_or c.args.marks.now c.loop-set.set-index item = get_or_default c.args.marks.now c.loop-set.set-index some_mark item c.loop-set-test.true in
    elim c.if-not-has_mark.branch [
      | then-not-has_mark w ↦
          least_taken (λ set. Mark set.pack) (λ set. not (holds_same (g.H.Holder.holding c.args.holder.now (Mark set.pack)) (Some (Marked set.mark)))) c.args.marks.now c.loop-set.set-index item c.loop-set.least _
          (w.least-is ∙ w.lesser-least.ensures) c.loop-set-test.true item-is
          (ap not (sym c.has_mark.ensures ∙ w.if-not-has_mark.true))
          c.loop-set.invariant
      | else-not-has_mark w ↦
          least_kept (λ set. Mark set.pack) (λ set. not (holds_same (g.H.Holder.holding c.args.holder.now (Mark set.pack)) (Some (Marked set.mark)))) c.args.marks.now c.loop-set.set-index item c.loop-set.least _
          w.least-is c.loop-set-test.true item-is
          (ap not (sym c.has_mark.ensures ∙ w.if-not-has_mark.false))
          c.loop-set.invariant
    ]
