use Rattle.serde_json.specs.View.{view}
use Rattle.keep_tree.proofs.Inverse.{answer_is_tree}
use Rattle.keep_tree.proofs.tree.read_tree.Goals as goal

pub returns-clause-whole : goal.returns-clause-whole
returns-clause-whole c = answer_is_tree c.tree_in.result c.args.bytes.now (view c.in_ok-value.value) c.in_ok-value.ensures.read c.tree_in.ensures
