-- Nothing is held once it was let go, and all that was given stays so.
use Rattle.keep_archive.specs.Archive.{archive_view}
use Rattle.keep_backups.proofs.Storing.{none_held, still_taken}
use Rattle.keep_backups.proofs.giving.IntakeReceives.store_part.Goals as goal

pub returns-in-Ok-clause-room : goal.returns-in-Ok-clause-room
returns-in-Ok-clause-room g c =
    none_held (archive_view c.args.self.now.archive) (archive_view c.let_go.new.self) c.in-Ok.field-0 c.in-Ok.ensures

pub returns-in-Ok-clause-same : goal.returns-in-Ok-clause-same
returns-in-Ok-clause-same g c =
    still_taken (archive_view c.args.self.now.archive) (archive_view c.let_go.new.self) c.in-Ok.field-0 c.in-Ok.ensures
