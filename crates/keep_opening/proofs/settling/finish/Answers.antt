-- One move after another is made, where it remains.
use Rattle.std.proofs.Common.{◌∙◌, sym, ap}
use Rattle.std.specs.FinMap as finite
use Rattle.keep_moves.specs.Move.{finished_all}
use Rattle.keep_opening.proofs.Finished.{left_finished, made_finished, next_finished}
use Rattle.keep_opening.proofs.settling.finish.Goals as goal
use Rattle.keep_opening.proofs.settling.finish.Goals.{then-remains+in_ok-make, else-remains}

pub loop-step-preserved : goal.loop-step-preserved
loop-step-preserved c =
    next_finished c.args.moves.now c.loop-step.step-index c.step-item.result c.loop-step.stock c.if-remains.stock (finished_all c.args.moves.now (finite.get c.args.stock.now))
    c.loop-step-test.true c.step-item.is c.loop-step.invariant
    (elim c.if-remains.branch [
      | then-remains+in_ok-make w ↦
          ap finite.get (w.stock-is ∙ w.in_ok-make.ensures) ∙ made_finished c.step-item.result c.loop-step.stock (sym c.remains.ensures ∙ w.if-remains.true)
      | else-remains w ↦
          ap finite.get w.stock-is ∙ left_finished c.step-item.result c.loop-step.stock (sym c.remains.ensures ∙ w.if-remains.false)
    ])
