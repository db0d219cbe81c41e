-- What was taken in is what stands there.
use Rattle.std.proofs.Common.{◌≡◌, [], subst}
use Rattle.std.specs.FinMap as finite
use Rattle.std.specs.List.{AllByRecursion}
use Rattle.keep_shelf.specs.Shelved.{Content}
use Rattle.keep_damage.specs.Blame.{IsToBlame}
use Rattle.keep_damage.specs.Damage.{IsDamage, IsRead}
use Rattle.keep_damage.proofs.damage.damage_on.Goals as goal

pub returns-clause-damage : goal.returns-clause-damage
returns-clause-damage g c =
    subst (λ (s : Content). IsDamage (finite.get s) c.in_ok-found.found.items) c.in_ok-stock.ensures.all c.in_ok-found.ensures.damage

pub returns-clause-blame : goal.returns-clause-blame
returns-clause-blame g c =
    subst (λ (s : Content). AllByRecursion (IsToBlame (finite.get s)) c.in_ok-found.found.items) c.in_ok-stock.ensures.all c.in_ok-found.ensures.blame

pub returns-clause-none : goal.returns-clause-none
returns-clause-none g c =
    subst (λ (s : Content). c.in_ok-found.found.items ≡ [] → IsRead (finite.get s)) c.in_ok-stock.ensures.all c.in_ok-found.ensures.none
