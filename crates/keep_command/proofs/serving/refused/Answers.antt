use Rattle.std.proofs.Common.{inr, refl}
use Rattle.keep_command.proofs.serving.refused.Goals as goal

pub returns-in-Ok-clause-told : goal.returns-in-Ok-clause-told
returns-in-Ok-clause-told g c = inr (c.in-BadEntry.number, c.in-BadEntry.is, record { damage = c.in-Ok.damage; says = c.in-Ok.ensures.says; is = refl })
