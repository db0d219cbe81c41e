use Rattle.keep_upkeep.proofs.MarkMade.{mark_met, mark_well_formed}
use Rattle.keep_upkeep.proofs.upkeep_laws.a_planned_mark_can_be_made.Goals as goal

pub returns : goal.returns
returns c = record {
  well_formed = mark_well_formed c.names_are_ordered.ensures.names c.what_is_stored_can_be_made.ensures c.sorted_lists_are_well_formed.ensures;
  met = mark_met c.what_is_stored_can_be_made.ensures c.what_is_asked_is_met.ensures;
}
