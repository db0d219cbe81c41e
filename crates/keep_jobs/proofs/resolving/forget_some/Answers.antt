use Rattle.std.proofs.Common.{refl, ap}
use Rattle.keep_jobs.proofs.RunsOut.{runs_out}
use Rattle.keep_jobs.specs.Job as job
use Rattle.keep_jobs.specs.Resolving.{filtered}
use Rattle.keep_lines.specs.Policies.{policy_data}
use Rattle.keep_jobs.proofs.resolving.forget_some.Goals as goal

pub returns-in_err-policy : goal.returns-in_err-policy
returns-in_err-policy g c =
    let named = rw c.as_str.ensures.value at c.in_ok-filter.ensures.found in
    let task = job.Forget (policy_data c.args.forget.rules.items) in
    runs_out (λ filter. filter.now.rule) _ (job.Filtered c.in_ok-filter.filter.now.rule task) c.from_residual-in_err-policy.result c.from_residual-in_err-policy.ensures.1
    (ap (λ rule. filtered rule task) named) refl
