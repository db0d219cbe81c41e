use Rattle.std.proofs.Common.{take, length, ◌<◌, ◌∙◌}
use Rattle.keep_putting.proofs.Care.{both, stopped, written_so, wrote}
use Rattle.keep_putting.proofs.Written.{calls_more, had_more, size_more}
use Rattle.keep_putting.proofs.file_filling.write.Goals as goal

pub returns-in_default-clause-careful : goal.returns-in_default-clause-careful
returns-in_default-clause-careful g c = λ h.
    let done = take c.loop-id.id-index c.args.content.now in
    wrote (g.P.Pieces.pieces c.args.pieces.now) c.args.place.now done _ _ h c.loop-id.invariant.calls

pub returns-in-Err-clause-careful : goal.returns-in-Err-clause-careful
returns-in-Err-clause-careful g c = λ h.
    let pieces = g.P.Pieces.pieces c.args.pieces.now in
    let done = take c.loop-id.id-index c.args.content.now in
    let before = g.T.Target.calls c.args.target.now in
    let between = g.T.Target.calls c.loop-id.target in
    both before between _
    (wrote pieces c.args.place.now done before between h c.loop-id.invariant.calls)
    (stopped between _ c.args.place.now c.in-Some.bytes.now c.in-Err.short (written_so pieces c.args.place.now done before between h c.loop-id.invariant.calls) c.in-Err.ensures)

pub loop-id-preserved : goal.loop-id-preserved
loop-id-preserved g c =
    let pieces = g.P.Pieces.pieces c.args.pieces.now in
    let ids = c.args.content.now in
    let bytes = c.in-Some.bytes.now in
    let inside : c.loop-id.id-index < length ids = c.loop-id-test.true in
    record {
      calls = calls_more pieces c.args.place.now bytes ids c.loop-id.id-index _ _ _ _ inside c.in-Some.ensures c.loop-id.invariant.calls c.in_default-append.ensures;
      had = had_more pieces bytes ids c.loop-id.id-index _ inside c.in-Some.ensures c.loop-id.invariant.had;
      size = c.saturating_add-written.ensures ∙ size_more pieces bytes ids c.loop-id.id-index _ c.loop-id.written inside c.in-Some.ensures c.loop-id.invariant.size;
    }

pub returns-clause-careful : goal.returns-clause-careful
returns-clause-careful g c = λ h.
    let done = take c.loop-id.id-index c.args.content.now in
    wrote (g.P.Pieces.pieces c.args.pieces.now) c.args.place.now done _ _ h c.loop-id.invariant.calls
