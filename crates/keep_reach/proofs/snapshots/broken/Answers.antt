use Rattle.std.proofs.Common.{◌∙◌}
use Rattle.std.proofs.lemmas.Result.{IfOk-weaker}
use Rattle.keep_reach.proofs.Reached.{kept_broken}
use Rattle.keep_reach.proofs.snapshots.broken.Goals as goal

pub returns : goal.returns
returns c =
    IfOk-weaker c.broken_among.result _ _ (λ broken is.
    is ∙ kept_broken c.args.catalog.now c.snaps.result.now c.snaps.ensures.ordered c.snaps.ensures.each c.snaps.ensures.all) c.broken_among.ensures
