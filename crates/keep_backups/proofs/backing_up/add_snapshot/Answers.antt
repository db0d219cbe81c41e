-- What the archive plans last is committed.
use Rattle.std.proofs.Common.{ap, map, string_bytes, ◌∙◌}
use Rattle.std.proofs.lemmas.Result.{err_from_is_err_and}
use Rattle.keep_acts.specs.Shown.{shown_by}
use Rattle.keep_archive.specs.Archive.{archive_view}
use Rattle.keep_backup.specs.Backup.{facts_view}
use Rattle.keep_journal.specs.declared.request.Request.TheVariants.{Commit}
use Rattle.keep_ledger.specs.Made.{with_event}
use Rattle.keep_backups.proofs.Storing.{is_last, last_cause}
use Rattle.keep_backups.proofs.backing_up.add_snapshot.Goals as goal

pub returns-in-Ok-clause-added : goal.returns-in-Ok-clause-added
returns-in-Ok-clause-added g c =
    let ledger = c.hash_blobs.ensures.ledger ∙ c.remember.ensures.ledger in
    let shown = c.view-view.ensures ∙ ap shown_by ledger in
    let last = is_last (archive_view c.args.filled.archive) (g.K.Keeps.ledger c.args.book.now) (facts_view c.args.wish.now.facts.now)
    (map string_bytes c.args.wish.now.tags.now) c.in_ok-planned.planned
    (rw shown at c.in_ok-planned.ensures.change) (rw shown at c.in_ok-planned.ensures.planned.seen) in (
      last.0,
      last.1,
      record {
        planned = c.in_ok-planned.planned;
        last = last.2;
        made = c.in-Ok.ensures.made ∙ ap (λ before. with_event before (Commit c.in_ok-planned.planned)) ledger;
      },
    )

pub returns-in_err-planned-clause-cause : goal.returns-in_err-planned-clause-cause
returns-in_err-planned-clause-cause g c =
    let due = err_from_is_err_and c.from_residual.result c.from_residual.ensures.1 in
    rw (due.1, due.2) (last_cause (archive_view c.args.filled.archive) (g.K.Keeps.ledger c.hash_blobs.new.self) (facts_view c.args.wish.now.facts.now)
    (map string_bytes c.args.wish.now.tags.now) c.in_err-planned.field-0.0 (rw c.view-view.ensures at c.in_err-planned.ensures.change))
