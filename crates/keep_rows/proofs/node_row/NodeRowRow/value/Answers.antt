use Rattle.keep_rows.proofs.Whole.{node-whole}
use Rattle.keep_rows.proofs.node_row.NodeRowRow.value.Goals as goal

pub returns-in-Ok-json-14-clause-whole : goal.returns-in-Ok-json-14-clause-whole
returns-in-Ok-json-14-clause-whole c = node-whole c.args.self.now
