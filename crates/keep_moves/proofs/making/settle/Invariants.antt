use Rattle.std.proofs.Common.{◌≡◌, ◌-◌, ◌≤◌, drop, length, map, take}
use Rattle.std.specs.FinMap as finite
use Rattle.keep_moves.specs.Calls.{Make, played}
use Rattle.keep_moves.specs.Move.{CanMake}
use Rattle.keep_moves.proofs.making.settle.Given as goal

abbrev pub invariant-loop-made : goal.invariant-loop-made
invariant-loop-made g l = record {
  within : l.made ≤ length l.moves;
  onward : l.initial.made ≤ l.made;
  can : CanMake (drop l.made l.moves) (finite.get (g.S.Shelf.shelved l.shelf).content);
  calls : g.S.Shelf.shelved l.shelf ≡ played (map Make (take (l.made - l.initial.made) (drop l.initial.made l.moves))) (g.S.Shelf.shelved l.initial.shelf);
}

abbrev pub decreases-loop-made : goal.decreases-loop-made
decreases-loop-made g l = length l.moves - l.made
