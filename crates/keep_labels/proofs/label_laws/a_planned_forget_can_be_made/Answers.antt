use Rattle.keep_labels.proofs.Forgotten.{forget_met, forget_well_formed}
use Rattle.keep_labels.proofs.label_laws.a_planned_forget_can_be_made.Goals as goal

pub returns : goal.returns
returns c = record {
  well_formed = λ r rule policy. forget_well_formed c.orders_tell_apart.ensures.names r rule policy c.sorted_lists_are_well_formed.ensures;
  met = λ r rule policy. forget_met c.orders_tell_apart.ensures.names r rule policy c.what_is_asked_is_met.ensures;
}
