use Rattle.keep_safety.proofs.SweepKeeps.{sweeps_keep_packs, sweeps_keep_places}
use Rattle.keep_safety.proofs.upkeep.what_a_sweep_lists.Goals as goal

pub returns : goal.returns
returns c = record {
  places = sweeps_keep_places c.orders_tell_apart.ensures.ids c.what_is_joined_is_listed.ensures.exact c.what_is_left_is_listed.ensures.listed c.what_is_joined_is_listed.ensures.entries;
  packs = sweeps_keep_packs c.orders_tell_apart.ensures.ids c.what_is_joined_is_listed.ensures.packs;
}
