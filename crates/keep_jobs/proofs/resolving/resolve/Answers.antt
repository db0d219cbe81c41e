use Rattle.std.proofs.Common.{map, string_bytes, refl, ap}
use Rattle.keep_backup.specs.Files.{given_view}
use Rattle.keep_jobs.proofs.RunsOut.{runs_out}
use Rattle.keep_jobs.specs.Job as job
use Rattle.keep_jobs.specs.Kits.{filters_of}
use Rattle.keep_jobs.specs.Resolving.{facts_of, job_of}
use Rattle.keep_jobs.proofs.resolving.resolve.Goals as goal

pub returns-in_err-facts-in-Backup : goal.returns-in_err-facts-in-Backup
returns-in_err-facts-in-Backup g c =
    let backup = c.in-Backup.field-0 in
    runs_out (λ filter. filter.now.rule) (job_of (filters_of c.args.kit.now) c.args.line) (job.Backup (facts_of (string_bytes backup.host) (string_bytes backup.time)) (map given_view backup.files.items))
    c.from_residual.result c.from_residual.ensures.1 (ap (job_of (filters_of c.args.kit.now)) c.in-Backup.is) refl
