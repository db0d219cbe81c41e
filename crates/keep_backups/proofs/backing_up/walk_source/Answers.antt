-- What is named is copied.
use Rattle.keep_sources.specs.Walked.{archive_of, skipped_of}
use Rattle.keep_backups.proofs.Tied.{retold}
use Rattle.keep_backups.proofs.backing_up.walk_source.Goals as goal

pub returns : goal.returns
returns g c =
    let seen = g.A.Receives.seen in
    retold g.R.Source.told g.A.Receives.gives c.args.job.now (seen (archive_of c.args.taking.now)) (seen (archive_of c.take.new.self)) (skipped_of c.args.taking.now)
    (skipped_of c.take.new.self) c.in_ok-skipped.skipped.items (rw c.skipped.ensures at c.in_ok-skipped.ensures) c.in_ok-take.ensures
