-- What the archive plans is a part of it, and the file that it names differs.
use Rattle.std.proofs.lemmas.Result.{err_from_is_err_and}
use Rattle.keep_archive.specs.Archive.{archive_view}
use Rattle.keep_backups.proofs.Storing.{is_part_if_any, part_cause}
use Rattle.keep_backups.proofs.lent.Lent.part.Goals as goal

pub returns-clause-part : goal.returns-clause-part
returns-clause-part g c =
    is_part_if_any (archive_view c.args.archive.now) (g.K.Keeps.ledger c.args.self.now.book.now) c.in_ok-part.part
    (rw c.view-view.ensures at c.in_ok-part.ensures.change) (rw c.view-view.ensures at c.in_ok-part.ensures.planned)

pub returns-in_err-part-clause-cause : goal.returns-in_err-part-clause-cause
returns-in_err-part-clause-cause g c =
    let due = err_from_is_err_and c.from_residual.result c.from_residual.ensures.1 in
    rw (due.1, due.2) (part_cause (archive_view c.args.archive.now) (g.K.Keeps.ledger c.args.self.now.book.now) c.in_err-part.field-0.0
    (rw c.view-view.ensures at c.in_err-part.ensures.change))
