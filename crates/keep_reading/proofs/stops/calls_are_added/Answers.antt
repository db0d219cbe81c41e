use Rattle.keep_reading.proofs.Stopping.{calls_added}
use Rattle.keep_reading.proofs.stops.calls_are_added.Goals as goal

pub returns : goal.returns
returns c = calls_added
