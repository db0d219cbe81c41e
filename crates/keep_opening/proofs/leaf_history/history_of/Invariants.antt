use Rattle.std.proofs.Common.{◌≡◌, length}
use Rattle.std.specs.Vec.Iter.{into_iter_items, into_iter_len}
use Rattle.keep_opening.proofs.Going.{Goes}
use Rattle.keep_opening.proofs.leaf_history.history_of.Given as goal

abbrev pub invariant-loop-leaf : goal.invariant-loop-leaf
invariant-loop-leaf l = record {
  counted : into_iter_len l.leaf-iterator ≡ length (into_iter_items l.leaf-iterator);
  goes : Goes l.final_number l.fn.leaves.items (into_iter_items l.leaf-iterator) l.history.journal l.top;
}
