use Rattle.keep_safety.proofs.Parts.{part_safe}
use Rattle.keep_safety.proofs.archive_laws.a_part_is_safe.Goals as goal

pub returns : goal.returns
returns c = part_safe c.orders_tell_apart.ensures.names c.covering_changes_are_careful.ensures c.careful_changes_are_safe.ensures
