use Rattle.keep_rows.proofs.Whole.{snapshot-whole}
use Rattle.keep_rows.proofs.snapshot.SnapshotRowRow.value.Goals as goal

pub returns-in-Ok-json-16-clause-whole : goal.returns-in-Ok-json-16-clause-whole
returns-in-Ok-json-16-clause-whole c = snapshot-whole c.args.self.now
