use Rattle.std.proofs.Common.{◌≡◌, take}
use Rattle.std.specs.BTreeSet.{contains}
use Rattle.std.specs.List.{list_any}
use Rattle.std.specs.Ordering.{eq_by_cmp}
use Rattle.keep_index.specs.Joining.{first_of_each}
use Rattle.keep_index.proofs.joining.first_of_each.Given as goal

abbrev pub invariant-loop-item : goal.invariant-loop-item
invariant-loop-item g l = record {
  seen : (q : g.row.T.Denot) → contains g.T.Ord.cmp l.seen q ≡ list_any (eq_by_cmp g.T.Ord.cmp q) (take l.item-index l.items);
  firsts : l.firsts.items ≡ first_of_each (eq_by_cmp g.T.Ord.cmp) (take l.item-index l.items);
}
