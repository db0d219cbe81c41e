use Rattle.keep_catalog.proofs.Building.{none_kept}
use Rattle.keep_catalog.proofs.tables.Tables.new.Goals as goal

pub returns : goal.returns
returns c = none_kept _ c.new.ensures.empty c.new-2.ensures.empty c.new-3.ensures.empty c.new-4.ensures.empty c.new-5.ensures.empty c.new-3.ensures.ordered c.new-4.ensures.ordered
