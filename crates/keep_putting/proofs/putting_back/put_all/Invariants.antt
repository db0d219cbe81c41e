use Rattle.std.proofs.Common.{◌≡◌, take}
use Rattle.keep_putting.specs.Careful.{IsCarefulFrom}
use Rattle.keep_putting.specs.Folders.{AreMade}
use Rattle.keep_putting.specs.Made.{folders_in}
use Rattle.keep_putting.specs.Putting.{AreDone, stage_of}
use Rattle.keep_putting.proofs.putting_back.put_all.Given as goal

abbrev pub invariant-loop-one : goal.invariant-loop-one
invariant-loop-one g l =
    let before = g.T.Target.calls l.initial.target in
    let now = g.T.Target.calls l.target in record {
      careful : IsCarefulFrom before now;
      made : AreMade (folders_in l.course.places) now;
      caller : l.course.caller ≡ l.initial.course.caller;
      done : AreDone (g.P.Pieces.pieces l.pieces) l.initial.course.caller (take l.one-index l.wanted)
          (stage_of before l.initial.course) (stage_of now l.course);
    }
