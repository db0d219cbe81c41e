-- Those of the mentions before this one are put.
use Rattle.std.proofs.Common.{◌≡◌, ℕ, ◌==◌, ◌&&◌, ◌||◌, take}
use Rattle.std.specs.BTreeSet.{contains}
use Rattle.std.specs.List.{list_any}
use Rattle.std.specs.Ordering.{nat_cmp}
use Rattle.keep_touch.specs.Finding.{in_force}
use Rattle.keep_touch.proofs.gathered.put_in_force.Given as goal

abbrev pub invariant-loop-mention : goal.invariant-loop-mention
invariant-loop-mention l = (m : ℕ) → contains nat_cmp l.pending m
    ≡ (contains nat_cmp l.initial.pending m || list_any (λ mention. (mention.number == m) && in_force l.history.journal mention.number) (take l.mention-index l.mentions))
