use Rattle.keep_catalog.proofs.SnapsKept.{snaps_kept}
use Rattle.keep_catalog.proofs.catalog.Catalog.snaps.Goals as goal

pub returns-clause-all : goal.returns-clause-all
returns-clause-all c = snaps_kept c.args.self.now c.tables.result.now.snaps c.tables.ensures.ordered c.tables.ensures.snaps
