-- What is taken back so far are the changes after the next one.
use Rattle.std.proofs.Common.{◌≡◌, ◌-◌}
use Rattle.keep_journal.specs.Kept.{later}
use Rattle.keep_journal.specs.Opening.{unfold_of}
use Rattle.keep_ledger.proofs.opening_marks.marks_under.Given as goal

abbrev pub invariant-loop-done : goal.invariant-loop-done
invariant-loop-done l = l.marks.marks ≡ (unfold_of (later l.history.journal (l.last - l.done)) l.live).marks
