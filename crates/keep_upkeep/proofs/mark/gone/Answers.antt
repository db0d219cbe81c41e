use Rattle.std.proofs.Common.{◌≡◌, ap, ◌∙◌}
use Rattle.std.proofs.lemmas.Result.{IfOk-weaker}
use Rattle.keep_repo.specs.Repository.{Repository}
use Rattle.keep_upkeep.specs.Mark.{gone_snapshots, not_there}
use Rattle.keep_upkeep.proofs.MarkAsked.{gone_are}
use Rattle.keep_upkeep.proofs.mark.gone.Goals as goal

pub returns : goal.returns
returns c =
    let r = c.args.view.now.repo in
    let keys = c.in_ok-known.known.keys in
    IfOk-weaker c.absent_among.result (λ absent. absent.items ≡ not_there c.repo.result.now keys) (λ absent. absent.items ≡ gone_snapshots r c.args.view.now.known)
    (λ absent is. is ∙ ap (λ (x : Repository). not_there x keys) c.repo.ensures ∙ gone_are r keys c.args.view.now.known c.absent_among.ensures.ordered c.in_ok-known.ensures.all)
    c.absent_among.ensures.absent
