use Rattle.std.proofs.Common.{ap, ◌∙◌, refl}
use Rattle.keep_restores.proofs.Dumped.{all_more, all_of, had_more, joined_more, none_joined}
use Rattle.keep_restores.proofs.dumping.parts_of.Goals as goal

pub loop-id-init : goal.loop-id-init
loop-id-init c = record {
  joined = ap all_of c.in_ok-parts.ensures.items ∙ none_joined c.args.catalog.now;
  had = refl;
}

pub loop-id-preserved : goal.loop-id-preserved
loop-id-preserved c =
    let ids = c.args.content.now in
    let k = c.loop-id.id-index in record {
      joined = ap all_of c.in_ok-push.ensures.items
          ∙ all_more c.loop-id.parts.items c.in_ok-bytes.bytes
          ∙ joined_more c.args.catalog.now ids k _ c.in_ok-bytes.bytes.now _ c.loop-id-test.true c.in_ok-bytes.ensures.piece c.loop-id.invariant.joined;
      had = had_more c.args.catalog.now ids k _ c.in_ok-bytes.bytes.now _ c.loop-id-test.true c.in_ok-bytes.ensures.piece c.loop-id.invariant.had;
    }
