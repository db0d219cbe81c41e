use Rattle.std.proofs.Common.{ℤ, w64, ap, sym, ◌∙◌}
use Rattle.std.proofs.lemmas.Int.{to_z-of_z}
use Rattle.keep_upkeep.specs.Sweep.{waited_marks}
use Rattle.keep_upkeep.proofs.SweepPlanned.{sweep_made, sweep_nothing}
use Rattle.keep_upkeep.proofs.sweep.sweep_waited.Goals as goal

pub returns-then-is_empty : goal.returns-then-is_empty
returns-then-is_empty c other =
    sweep_nothing c.args.repo.now c.args.now c.args.wait c.in_ok-marks.marks
    (c.in_ok-marks.ensures ∙ ap (λ (n : ℤ). waited_marks c.args.repo.now n c.args.wait) (to_z-of_z w64 c.args.now c.ranges.now)) (sym c.is_empty.ensures ∙ c.if-is_empty.true)

pub returns : goal.returns
returns c =
    sweep_made c.args.repo.now c.args.now c.args.wait c.in_ok-marks.marks c.in_ok-change.change
    (c.in_ok-marks.ensures ∙ ap (λ (n : ℤ). waited_marks c.args.repo.now n c.args.wait) (to_z-of_z w64 c.args.now c.ranges.now)) (sym c.is_empty.ensures ∙ c.if-is_empty.false)
    c.in_ok-change.ensures
