use Rattle.keep_tree.proofs.Inverse.{IsTree-tree_of}
use Rattle.keep_tree.proofs.ReadBack.{tree_of-compact_text}
use Rattle.keep_tree.proofs.tree_writing.trees_read_back.Goals as goal

pub returns-clause-written : goal.returns-clause-written
returns-clause-written c = tree_of-compact_text

pub returns-clause-read : goal.returns-clause-read
returns-clause-read c = IsTree-tree_of
