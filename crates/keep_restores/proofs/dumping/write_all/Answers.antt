use Rattle.std.proofs.Common.{◌∙◌}
use Rattle.keep_restores.proofs.Dumped.{size_more, written_more}
use Rattle.keep_restores.proofs.dumping.write_all.Goals as goal

pub loop-part-preserved : goal.loop-part-preserved
loop-part-preserved g c =
    let parts = c.args.parts.now in
    let k = c.loop-part.part-index in record {
      written = written_more _ _ _ parts k _ c.loop-part-test.true c.loop-part.invariant.written c.in_default.ensures.bytes;
      size = c.saturating_add-written.ensures ∙ size_more parts k _ c.loop-part.written c.loop-part-test.true c.loop-part.invariant.size;
    }
