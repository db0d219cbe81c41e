-- The least so far, and the least of what is left, are the least of all.
use Rattle.std.proofs.Common.{◌≡◌, drop, not, Some}
use Rattle.keep_repo.specs.Facet.{Marked}
use Rattle.keep_repo.specs.declared.facet.Facet.TheVariants.{Mark}
use Rattle.keep_change.specs.Change.{holds_same}
use Rattle.keep_change.specs.Form.{lesser, least_where}
use Rattle.keep_change.proofs.meets.least_other_mark.Given as goal

abbrev pub invariant-loop-set : goal.invariant-loop-set
invariant-loop-set g l =
    lesser l.least (least_where (λ set. Mark set.pack) (λ set. not (holds_same (g.H.Holder.holding l.holder (Mark set.pack)) (Some (Marked set.mark)))) (drop l.set-index l.marks))
    ≡ least_where (λ set. Mark set.pack) (λ set. not (holds_same (g.H.Holder.holding l.holder (Mark set.pack)) (Some (Marked set.mark)))) l.marks
