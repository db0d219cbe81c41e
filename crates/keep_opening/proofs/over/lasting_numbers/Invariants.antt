use Rattle.std.proofs.Common.{◌≡◌, ◌==◌, ℕ, take}
use Rattle.std.specs.BTreeSet as tree
use Rattle.std.specs.List.{list_any}
use Rattle.std.specs.Ordering.{nat_cmp}
use Rattle.keep_journal.specs.declared.event.Notice.{Notice}
use Rattle.keep_opening.proofs.over.lasting_numbers.Given as goal

-- the set has the numbers of the notices so far
abbrev pub invariant-loop-notice : goal.invariant-loop-notice
invariant-loop-notice l = (k : ℕ) → tree.contains nat_cmp l.told k ≡ list_any (λ (x : Notice). x.at == k) (take l.notice-index l.notice-items)
