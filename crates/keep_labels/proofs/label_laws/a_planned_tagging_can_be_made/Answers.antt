use Rattle.keep_labels.proofs.Tagged.{tag_met, tag_well_formed}
use Rattle.keep_labels.proofs.label_laws.a_planned_tagging_can_be_made.Goals as goal

pub returns : goal.returns
returns c = record {
  well_formed = λ r rule edit. tag_well_formed r rule edit c.orders_tell_apart.ensures.names c.what_is_stored_can_be_made.ensures c.sorted_lists_are_well_formed.ensures;
  met = λ r rule edit. tag_met r rule edit c.orders_tell_apart.ensures.names c.what_is_stored_can_be_made.ensures c.what_is_asked_is_met.ensures;
}
