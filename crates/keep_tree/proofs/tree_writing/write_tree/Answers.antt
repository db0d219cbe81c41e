use Rattle.serde_json.specs.View.{view}
use Rattle.keep_tree.specs.Tree.{tree_view}
use Rattle.keep_tree.proofs.ReadBack.{bytes_read_back}
use Rattle.keep_tree.proofs.tree_writing.write_tree.Goals as goal

pub returns-clause-reads_back : goal.returns-clause-reads_back
returns-clause-reads_back c =
    bytes_read_back c.write_doc.result (view c.in_ok-value.value) (tree_view c.args.tree.now) c.in_ok-value.ensures c.write_doc.ensures.reads_back
