use Rattle.keep_rows.proofs.Whole.{finding-whole}
use Rattle.keep_rows.proofs.finding_row.FindingRowRow.value.Goals as goal

pub returns-in-Ok-json-6-clause-whole : goal.returns-in-Ok-json-6-clause-whole
returns-in-Ok-json-6-clause-whole c = finding-whole c.args.self.now
