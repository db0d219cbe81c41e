-- What the walk gave is finished.
use Rattle.std.proofs.lemmas.Result.{IfOk-weaker}
use Rattle.keep_rescue.specs.Seen.{seen_by}
use Rattle.keep_rescue.proofs.rescuing.rescue.Goals as goal

pub returns-clause-rescued : goal.returns-clause-rescued
returns-clause-rescued g c =
    let walked = c.in_ok-salvage.ensures in
    IfOk-weaker c.finish.result _ _ (λ rescued finished. record {
      job = walked.job;
      wanted = walked.wanted;
      seen = seen_by g.T.Target.calls c.in_ok-salvage.salvage;
      skips = c.in_ok-salvage.skipped.items;
      taken = walked.taken;
      finished = finished;
    }) c.finish.ensures
