use Rattle.std.proofs.Common.{◌≡◌, ◌++◌, filter, length}
use Rattle.std.specs.FinMap as finite
use Rattle.std.specs.Vec.Iter.{into_iter_items, into_iter_len}
use Rattle.keep_moves.specs.Move.{remains}
use Rattle.keep_opening.proofs.due.left_of.Given as goal

-- those that were kept, and those of the moves that are left
abbrev pub invariant-loop-step : goal.invariant-loop-step
invariant-loop-step l = record {
  counted : into_iter_len l.step-iterator ≡ length (into_iter_items l.step-iterator);
  all : l.left.items ++ filter (remains (finite.get l.stock)) (into_iter_items l.step-iterator) ≡ filter (remains (finite.get l.stock)) l.fn.moves.items;
}
