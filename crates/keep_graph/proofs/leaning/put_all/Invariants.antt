-- Those are put that find what lies in the facets of the members before this one.
use Rattle.std.proofs.Common.{◌≡◌, ℕ, ◌||◌, map, take}
use Rattle.std.specs.BTreeSet.{contains}
use Rattle.std.specs.List.{list_any}
use Rattle.std.specs.Ordering.{nat_cmp}
use Rattle.keep_graph.specs.Leaning.{finds}
use Rattle.keep_graph.proofs.leaning.put_all.Given as goal

abbrev pub invariant-loop-member : goal.invariant-loop-member
invariant-loop-member g l = (m : ℕ) → contains nat_cmp l.found m
    ≡ (contains nat_cmp l.initial.found m || list_any (finds l.touch l.history.journal l.n m) (map g.M.Member.facet_of (take l.member-index l.members)))
