-- Memory that runs out where the job that is due takes some.
use Rattle.std.proofs.Common.{◌≡◌, Bool, true, false, not, Option, Some, Result, refl}
use Rattle.std.proofs.lemmas.Result.{err_from_is_err_and}
use Rattle.std.specs.Result.{IsErrAnd}
use Rattle.keep_plan.specs.declared.pick.Pick.{Pick}
use Rattle.keep_jobs.specs.Job.{JobData}
use Rattle.keep_jobs.specs.Resolving.{Resolves, takes_memory}
use Rattle.keep_jobs.specs.declared.job.Job.{Job}
use Rattle.keep_lines.specs.declared.command.LineError.{LineError}
use Rattle.keep_lines.specs.declared.command.LineError.TheVariants.{Memory}

pub runs_out : {F : Type 0} (rule : F → Pick) (due : Option JobData) (asked : JobData) (r : Result (Job F) LineError) → IsErrAnd r (λ error. error ≡ Memory) → due ≡ Some asked → takes_memory asked ≡ true → Resolves rule due r
runs_out rule due asked r h e takes =
    let p = err_from_is_err_and r h in
    rw (p.1, p.2) (asked, e, takes)

-- what can't be bad isn't
pub good : (bad : Bool) → (bad ≡ true → false ≡ true) → not bad ≡ true
good true h = h refl
good false h = refl
