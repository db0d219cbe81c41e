use Rattle.keep_safety.proofs.ForgetSafe.{forget_safe}
use Rattle.keep_safety.proofs.labels.a_planned_forget_is_safe.Goals as goal

pub returns : goal.returns
returns c = forget_safe c.orders_tell_apart.ensures.names c.forgetting_is_safe.ensures c.sorted_lists_are_well_formed.ensures
