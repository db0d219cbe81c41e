use Rattle.keep_safety.proofs.Fitting.{headers_fit}
use Rattle.keep_safety.proofs.RepairKeeps.{repairs_list_packs, repairs_list_places}
use Rattle.keep_safety.proofs.upkeep.what_a_repair_lists.Goals as goal

pub returns : goal.returns
returns c = record {
  places = repairs_list_places c.orders_tell_apart.ensures.ids;
  packs = repairs_list_packs c.orders_tell_apart.ensures.ids;
  fits = headers_fit c.headers_are_read.ensures.written c.headers_are_read.ensures.within;
}
