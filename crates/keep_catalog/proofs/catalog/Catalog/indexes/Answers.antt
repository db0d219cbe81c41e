use Rattle.keep_catalog.proofs.IndexesKept.{indexes_kept}
use Rattle.keep_catalog.proofs.catalog.Catalog.indexes.Goals as goal

pub returns-clause-all : goal.returns-clause-all
returns-clause-all c = indexes_kept c.args.self.now c.tables.result.now.indexes c.tables.ensures.indexes_ordered c.tables.ensures.indexes
