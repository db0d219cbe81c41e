use Rattle.keep_restores.proofs.Lent.{wanted_more}
use Rattle.keep_restores.proofs.wanting.wanted_for.Goals as goal

pub loop-entry-preserved : goal.loop-entry-preserved
loop-entry-preserved c =
    wanted_more c.args.entries.now c.loop-entry.entry-index c.entry-item.result c.loop-entry.all.items _ c.in_ok-wanted.wanted
    c.loop-entry-test.true c.entry-item.is c.loop-entry.invariant c.in_ok-wanted.ensures c.in_ok-push.ensures.items
