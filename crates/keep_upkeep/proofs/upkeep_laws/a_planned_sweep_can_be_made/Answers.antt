use Rattle.keep_upkeep.proofs.SweepPlanned.{sweep_met, sweep_well_formed}
use Rattle.keep_upkeep.proofs.upkeep_laws.a_planned_sweep_can_be_made.Goals as goal

pub returns : goal.returns
returns c = record {
  well_formed = λ r now wait. sweep_well_formed c.names_are_ordered.ensures.names c.names_are_ordered.ensures.kinds c.orders_tell_apart.ensures.names c.what_is_stored_can_be_made.ensures r now wait c.sorted_lists_are_well_formed.ensures;
  met = λ r now wait. sweep_met c.names_are_ordered.ensures.names c.names_are_ordered.ensures.kinds c.orders_tell_apart.ensures.names c.what_is_stored_can_be_made.ensures r now wait c.what_is_asked_is_met.ensures;
}
