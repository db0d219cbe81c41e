-- What the walk took is what the intake gives back.
use Rattle.std.proofs.Common.{ap}
use Rattle.keep_archive.specs.Archive.{archive_view}
use Rattle.keep_sources.specs.Walked.{archive_of, skipped_of}
use Rattle.keep_backups.specs.Taken.{taken_of}
use Rattle.keep_backups.proofs.Tied.{walked}
use Rattle.keep_backups.proofs.backing_up.walk.Goals as goal

pub returns : goal.returns
returns g c =
    walked g.R.Source.told c.args.job.now (taken_of (archive_view (archive_of c.args.taking).archive)) (archive_of c.walk_source-done.new.taking).archive c.into_parts-source.result.1.archive
    (skipped_of c.args.taking) c.walk_source-done.result c.filled.result c.walk_source-done.ensures (ap (λ x. x.archive) c.into_parts-source.ensures.archive) c.filled.ensures.archive c.filled.ensures.skipped
