use Rattle.std.proofs.Common.{rules}
use Rattle.std.proofs.lemmas.Iterator.Adapters.{YieldsList-from_bytes}
use Rattle.std.proofs.lemmas.Iterator.Search.{any_from_yields_List}
use borrow.Author.Tests.{tests}
use Rattle.keep_tree.specs.Names.{is_never_in_names}
use Rattle.keep_tree.proofs.names.has_never_in_names.Goals as goal

pub returns : goal.returns
returns c = any_from_yields_List is_never_in_names _ _ _ c.any.ensures.ran (YieldsList-from_bytes c.args.name.now cc) (λ x b q k. search (rules, tests))
