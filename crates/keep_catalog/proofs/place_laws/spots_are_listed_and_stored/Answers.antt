use Rattle.keep_catalog.proofs.Spots.{spot_kept, spot_least, spot_listed, spot_stored}
use Rattle.keep_catalog.proofs.place_laws.spots_are_listed_and_stored.Goals as goal

pub returns : goal.returns
returns c = record { listed = spot_listed; stored = spot_stored; least = spot_least; kept = spot_kept }
