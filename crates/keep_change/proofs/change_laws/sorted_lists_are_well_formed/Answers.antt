use Rattle.keep_change.proofs.Apart.{sorted_lists_are_well_formed_lem}
use Rattle.keep_change.proofs.change_laws.sorted_lists_are_well_formed.Goals as goal

pub returns : goal.returns
returns c = sorted_lists_are_well_formed_lem
