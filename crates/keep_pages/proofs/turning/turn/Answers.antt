use Rattle.keep_change.specs.declared.turn.Turn.TheVariants.{Make}
use Rattle.keep_ledger.specs.Entering.{CanTurn}
use Rattle.keep_pages.proofs.turning.turn.Goals as goal

pub apply-requires-clause-once : goal.apply-requires-clause-once
apply-requires-clause-once c =
    let can : CanTurn Make c.in-Commit.change c.args.live.now = rw c.in-Commit.is at c.requires.can in
    rw c.as_change.ensures can.once
