use Rattle.std.proofs.Common.{◌≡◌, length}
use Rattle.keep_putting.specs.Careful.{IsCarefulFrom}
use Rattle.keep_putting.specs.Folders.{AreMade}
use Rattle.keep_putting.specs.Made.{folders_in}
use Rattle.keep_putting.specs.Putting.{stage_of}
use Rattle.keep_putting.proofs.Finishing.{IsFinishedFrom}
use Rattle.keep_putting.proofs.putting_back.finish_all.Given as goal

abbrev pub invariant-loop-last : goal.invariant-loop-last
invariant-loop-last g l =
    let before = g.T.Target.calls l.initial.target in
    let now = g.T.Target.calls l.target in record {
      careful : IsCarefulFrom before now;
      made : AreMade (folders_in l.course.places) now;
      caller : l.course.caller ≡ l.initial.course.caller;
      done : IsFinishedFrom l.initial.course.caller l.fn.wanted l.rest (stage_of before l.initial.course) (stage_of now l.course);
    }

abbrev pub decreases-loop-last : goal.decreases-loop-last
decreases-loop-last g l = length l.rest
