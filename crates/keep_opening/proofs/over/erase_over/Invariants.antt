use Rattle.std.proofs.Common.{◌≡◌, ◌++◌, drop, map, filter}
use Rattle.std.specs.BTreeSet as tree
use Rattle.std.specs.Ordering.{nat_cmp}
use Rattle.keep_moves.specs.declared.moves.Move.TheVariants.{Erase}
use Rattle.keep_opening.specs.Remaining.{over_test}
use Rattle.keep_opening.proofs.over.erase_over.Given as goal

-- the erasures so far, and those of the keys that are left
abbrev pub invariant-loop-key : goal.invariant-loop-key
invariant-loop-key l =
    l.moves.items ++ map Erase (filter (over_test l.n (tree.contains nat_cmp l.told)) (drop l.key-index l.keys))
    ≡ map Erase (filter (over_test l.n (tree.contains nat_cmp l.told)) l.keys)
