-- What is left to take, taken from what there is now, leaves what taking all leaves.
use Rattle.std.proofs.Common.{◌≡◌, drop}
use Rattle.keep_change.specs.Result as made
use Rattle.keep_change.proofs.effect.remove_marks.Given as goal

abbrev pub invariant-loop-set : goal.invariant-loop-set
invariant-loop-set l =
    record l.repo { marks = made.remove_marks (drop l.set-index l.marks) l.repo.marks }
    ≡ record l.initial.repo { marks = made.remove_marks l.marks l.initial.repo.marks }
