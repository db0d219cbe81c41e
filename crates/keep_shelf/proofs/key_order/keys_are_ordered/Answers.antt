use Rattle.keep_names.proofs.TellsApart.{apart_from}
use Rattle.keep_shelf.proofs.Orders.{key_exact, key_total, keys_are_ordered_lem}
use Rattle.keep_shelf.proofs.key_order.keys_are_ordered.Goals as goal

pub returns-clause-ordered : goal.returns-clause-ordered
returns-clause-ordered c = keys_are_ordered_lem

pub returns-clause-apart : goal.returns-clause-apart
returns-clause-apart c = apart_from key_total key_exact
