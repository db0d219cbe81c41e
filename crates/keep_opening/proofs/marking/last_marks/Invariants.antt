use Rattle.std.proofs.Common.{◌≡◌, drop, fold}
use Rattle.std.specs.Option.{option_copied}
use Rattle.keep_journal.specs.History.{last_marks, marks_after}
use Rattle.keep_reading.specs.Leaves.{entries_of}
use Rattle.keep_reading.specs.Reads.{all_of}
use Rattle.keep_opening.proofs.marking.last_marks.Given as goal

-- with what the leaves that are left tell, these are the last ones
abbrev pub invariant-loop-leaf : goal.invariant-loop-leaf
invariant-loop-leaf l = fold (λ before e. marks_after before e.event) (option_copied l.last) (entries_of (drop l.leaf-index l.leaves)) ≡ last_marks (all_of (entries_of l.leaves))
