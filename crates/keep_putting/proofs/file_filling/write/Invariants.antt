use Rattle.std.proofs.Common.{◌≡◌, ◌++◌, take}
use Rattle.keep_putting.specs.Filling.{AreHad, pieces_size, writing}
use Rattle.keep_putting.proofs.file_filling.write.Given as goal

abbrev pub invariant-loop-id : goal.invariant-loop-id
invariant-loop-id g l =
    let pieces = g.P.Pieces.pieces l.pieces in
    let before = g.T.Target.calls l.initial.target in
    let done = take l.id-index l.content in record {
      calls : g.T.Target.calls l.target ≡ before ++ writing pieces l.place done;
      had : AreHad pieces done;
      size : l.written ≡ pieces_size pieces done;
    }
