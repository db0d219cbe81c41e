-- The marks before this one are put.
use Rattle.std.proofs.Common.{◌≡◌, take}
use Rattle.keep_change.specs.Result as made
use Rattle.keep_change.proofs.effect.put_marks.Given as goal

abbrev pub invariant-loop-place : goal.invariant-loop-place
invariant-loop-place l =
    l.repo ≡ record l.initial.repo { marks = made.put_marks (take l.place l.marks) l.initial.repo.marks }
