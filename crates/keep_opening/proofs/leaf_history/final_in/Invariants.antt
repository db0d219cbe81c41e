use Rattle.std.proofs.Common.{◌≡◌, drop, fold}
use Rattle.keep_journal.specs.History.{final_after, final_number}
use Rattle.keep_reading.specs.Leaves.{entries_of}
use Rattle.keep_reading.specs.Reads.{all_of}
use Rattle.keep_opening.proofs.leaf_history.final_in.Given as goal

-- what the leaves that are left make of the number is what all of them make
abbrev pub invariant-loop-leaf : goal.invariant-loop-leaf
invariant-loop-leaf l = fold (λ before e. final_after before e.event) l.number (entries_of (drop l.leaf-index l.leaves)) ≡ final_number (all_of (entries_of l.leaves))
