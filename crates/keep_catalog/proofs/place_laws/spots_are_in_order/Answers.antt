use Rattle.keep_catalog.proofs.SpotOrders.{spot_less}
use Rattle.keep_catalog.proofs.place_laws.spots_are_in_order.Goals as goal

pub returns : goal.returns
returns c = spot_less
