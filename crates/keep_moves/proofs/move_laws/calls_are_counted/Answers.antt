use Rattle.keep_moves.proofs.Counts.{calls_counted, calls_recorded}
use Rattle.keep_moves.proofs.move_laws.calls_are_counted.Goals as goal

pub returns : goal.returns
returns c = record { recorded = calls_recorded; counted = calls_counted }
