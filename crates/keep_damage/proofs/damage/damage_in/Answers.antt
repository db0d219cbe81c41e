use Rattle.std.specs.FinMap as finite
use Rattle.keep_damage.proofs.Damages.{damage_blames, damage_none}
use Rattle.keep_damage.proofs.damage.damage_in.Goals as goal

pub returns-clause-blame : goal.returns-clause-blame
returns-clause-blame c = damage_blames (finite.get c.args.stock.now) c.in_ok-found.found.items c.in_ok-found.ensures

pub returns-clause-none : goal.returns-clause-none
returns-clause-none c = damage_none (finite.get c.args.stock.now) c.in_ok-found.found.items c.in_ok-found.ensures
