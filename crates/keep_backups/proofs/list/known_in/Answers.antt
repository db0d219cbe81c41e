use Rattle.std.proofs.Common.{◌∙◌}
use Rattle.keep_backups.proofs.KnownMaps.{one_more}
use Rattle.keep_backups.proofs.list.known_in.Goals as goal

pub loop-entry-preserved : goal.loop-entry-preserved
loop-entry-preserved c path =
    one_more c.args.entries.now c.loop-entry.entry-index c.entry-item.result path _ _ c.loop-entry-test.true c.entry-item.is (c.in_ok-add.ensures path)
    ∙ c.loop-entry.invariant path
