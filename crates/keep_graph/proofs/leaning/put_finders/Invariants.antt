-- Those of the mentions before this one are put, and none of them writes.
use Rattle.std.proofs.Common.{◌≡◌, ℕ, ◌==◌, ◌||◌, drop}
use Rattle.std.specs.BTreeSet.{contains}
use Rattle.std.specs.List.{list_any}
use Rattle.std.specs.Ordering.{nat_cmp}
use Rattle.keep_graph.specs.Leaning.{finders}
use Rattle.keep_graph.proofs.leaning.put_finders.Given as goal

abbrev pub invariant-loop-mention : goal.invariant-loop-mention
invariant-loop-mention l = (m : ℕ)
    → (contains nat_cmp l.found m || list_any (λ mention. mention.number == m) (finders l.history.journal (drop l.mention-index l.mentions)))
    ≡ (contains nat_cmp l.initial.found m || list_any (λ mention. mention.number == m) (finders l.history.journal l.mentions))
