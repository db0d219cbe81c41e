use Rattle.keep_repo.specs.Repository.{held}
use Rattle.keep_change.specs.Change.{is_met}
use Rattle.std.proofs.Common.{◌≡◌, true}
use Rattle.keep_change.specs.Form.{IsWellFormed}
use Rattle.keep_upkeep.proofs.RepairPlanned.{repair_so, repaired_met, repaired_well_formed}
use Rattle.keep_upkeep.proofs.upkeep_laws.a_planned_repair_can_be_made.Goals as goal

pub returns : goal.returns
returns c = record {
  well_formed = λ r. repair_so r IsWellFormed (repaired_well_formed c.names_are_ordered.ensures.names c.orders_tell_apart.ensures.names c.what_is_stored_can_be_made.ensures r c.sorted_lists_are_well_formed.ensures);
  met = λ r. repair_so r (λ change. is_met (held r) change ≡ true) (repaired_met c.names_are_ordered.ensures.names c.orders_tell_apart.ensures.names c.what_is_stored_can_be_made.ensures r c.what_is_asked_is_met.ensures);
}
