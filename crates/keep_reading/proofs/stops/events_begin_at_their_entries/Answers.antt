use Rattle.keep_reading.proofs.Begins.{event_begins}
use Rattle.keep_reading.proofs.Emptied.{emptying_begins}
use Rattle.keep_reading.proofs.stops.events_begin_at_their_entries.Goals as goal

pub returns : goal.returns
returns c = record { events = event_begins; emptyings = emptying_begins }
