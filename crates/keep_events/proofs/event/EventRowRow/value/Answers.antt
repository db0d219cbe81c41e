use Rattle.keep_events.proofs.Whole.{event-whole}
use Rattle.keep_events.specs.Events.{event_view}
use Rattle.keep_events.proofs.event.EventRowRow.value.Goals as goal

pub returns-in-Ok-json-18-clause-whole : goal.returns-in-Ok-json-18-clause-whole
returns-in-Ok-json-18-clause-whole c = event-whole (event_view c.args.self.now)
