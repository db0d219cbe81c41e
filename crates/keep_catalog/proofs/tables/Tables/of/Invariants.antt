use Rattle.std.proofs.Common.{drop}
use Rattle.keep_catalog.proofs.Building.{Reading}
use Rattle.keep_catalog.proofs.tables.Tables.of.Given as goal

abbrev pub invariant-loop-name : goal.invariant-loop-name
invariant-loop-name l = Reading (drop l.name-index l.name-items) l.repo l.tables
