-- The walk begins with a rescue that has done nothing, and gives it back.
use Rattle.std.proofs.Common.{◌∙◌, ap}
use Rattle.keep_sources.specs.Walked.{archive_of, skipped_of}
use Rattle.keep_rescue.specs.Seen.{seen_by}
use Rattle.keep_rescue.proofs.Walking.{walked_so}
use Rattle.keep_rescue.proofs.rescuing.walked.Goals as goal

pub returns-in-Ok : goal.returns-in-Ok
returns-in-Ok g c =
    let calls = g.T.Target.calls in
    let taking = c.in_ok-taking.taking in
    walked_so g.S.Source.told calls (calls c.args.target) c.in_ok-job.job (seen_by calls (archive_of taking)) (skipped_of taking)
    c.into_parts-source.result.1 (archive_of c.walk_source-taken.new.taking) c.in-Ok.skipped.items c.in_ok-job.ensures
    (ap (seen_by calls) c.in_ok-taking.ensures.archive ∙ c.new.ensures) c.in_ok-taking.ensures.skipped
    c.into_parts-source.ensures.archive c.in-Ok.ensures
