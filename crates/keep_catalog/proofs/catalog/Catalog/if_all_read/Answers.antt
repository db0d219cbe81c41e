use Rattle.std.proofs.Common.{sym, ◌∙◌}
use Rattle.keep_catalog.specs.Files.{unread_in}
use Rattle.keep_catalog.proofs.UnreadKept.{none_first}
use Rattle.keep_catalog.proofs.catalog.Catalog.if_all_read.Goals as goal

pub returns-clause-all_read : goal.returns-clause-all_read
returns-clause-all_read c =
    none_first (unread_in c.args.self) (sym (c.first_unread.ensures c.args.self c.tables.ensures) ∙ c.in-None.is)
