use Rattle.keep_events.proofs.Whole.{part-whole}
use Rattle.keep_events.proofs.part.PartRowRow.value.Goals as goal

pub returns-in-Ok-json-10-clause-whole : goal.returns-in-Ok-json-10-clause-whole
returns-in-Ok-json-10-clause-whole c = part-whole c.args.self.now
