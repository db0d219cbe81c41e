use Rattle.std.proofs.KnownBytes.{Keeps-refl}
use Rattle.keep_script.proofs.StatusLemmas.{StopsAt-other}
use Rattle.keep_script.proofs.turns.stop_at.Goals as goal

pub returns-in_default-clause-stops : goal.returns-in_default-clause-stops
returns-in_default-clause-stops g c = StopsAt-other _ _ c.args.number c.args.stop _ c.in_default.not-BadLine (Keeps-refl _) c.status.ensures
