use Rattle.std.proofs.Common.{◌≡◌, ◌++◌, drop, filter, map}
use Rattle.keep_change.specs.Marks.{pack_mark}
use Rattle.keep_upkeep.specs.Sweep.{has_waited}
use Rattle.keep_upkeep.proofs.sweep.waited_marks.Given as goal

abbrev pub invariant-loop-entry : goal.invariant-loop-entry
invariant-loop-entry l =
    l.waited.items ++ filter (λ m. has_waited l.now l.wait m.mark) (map pack_mark (drop l.entry-index l.entry-items))
    ≡ filter (λ m. has_waited l.now l.wait m.mark) (map pack_mark l.entry-items)
