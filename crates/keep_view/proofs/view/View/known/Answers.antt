-- The snapshots that are known are the view's.
use Rattle.keep_view.proofs.Knowing.{each_known}
use Rattle.keep_view.proofs.view.View.known.Goals as goal

pub returns-clause-each : goal.returns-clause-each
returns-clause-each c = rw (← c.self.view_is, ← c.repo.ensures) (each_known _ _ c.known_snapshots.ensures)
