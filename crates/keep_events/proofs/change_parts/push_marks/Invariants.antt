use Rattle.std.proofs.Common.{◌≡◌, ◌++◌, map, take}
use Rattle.keep_events.specs.Parts.{mark_part}
use Rattle.keep_events.proofs.change_parts.push_marks.Given as goal

abbrev pub invariant-loop-mark : goal.invariant-loop-mark
invariant-loop-mark l =
    l.rows.items ≡ l.initial.rows.items ++ map (mark_part l.sign) (take l.mark-index l.marks)
