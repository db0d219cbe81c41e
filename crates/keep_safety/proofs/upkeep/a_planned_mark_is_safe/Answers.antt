use Rattle.keep_safety.proofs.MarkKeeps.{mark_safe, mark_strict}
use Rattle.keep_safety.proofs.upkeep.a_planned_mark_is_safe.Goals as goal

pub returns : goal.returns
returns c = record {
  safe = λ r all known moment change is met.
      mark_safe c.orders_tell_apart.ensures.blobs c.used_blobs_are_listed_once.ensures.used c.each_use_is_recorded.ensures r known moment
      (c.a_planned_mark_can_be_made.ensures.well_formed r known moment) c.marking_is_safe.ensures all change is met.one_text met.part;
  strict = mark_strict;
}
