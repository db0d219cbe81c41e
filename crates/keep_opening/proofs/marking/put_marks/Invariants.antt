-- What is left to put, put among what there is now, leaves what putting all leaves.
use Rattle.std.proofs.Common.{◌≡◌, drop}
use Rattle.keep_change.specs.Result as made
use Rattle.keep_opening.proofs.marking.put_marks.Given as goal

abbrev pub invariant-loop-put : goal.invariant-loop-put
invariant-loop-put l =
    record l.repo { marks = made.put_marks (drop l.put-index l.marks) l.repo.marks }
    ≡ record l.initial.repo { marks = made.put_marks l.marks l.initial.repo.marks }
