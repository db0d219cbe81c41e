-- The desk is named by the list of its events, the book that it is opened with, and what counts its events; just the
-- backups of its operators may be committed there.
use Rattle.keep_book.specs.Armed.{hooks_of, ledger_of}
use Rattle.keep_jobs.specs.Job.{settings_view}
use Rattle.keep_operators.specs.Crewed.{PlansBackup}
use Rattle.keep_main.proofs.crew_run.crewed.Given as goal

abbrev pub ghosts-crew_at_desk-B-Chronicled : goal.ghosts-crew_at_desk-B-Chronicled
ghosts-crew_at_desk-B-Chronicled g a = record { book = a.opened.sight.book }

abbrev pub ghosts-crew_at_desk-B-Naming : goal.ghosts-crew_at_desk-B-Naming
ghosts-crew_at_desk-B-Naming g a = record {
  opening = ledger_of a.keeper;
  hooks = hooks_of a.keeper;
  allows = PlansBackup (settings_view a.order.settings) a.order.time.now a.order.size (ledger_of a.keeper);
}

abbrev pub ghosts-crew_at_desk-B-Ledger : goal.ghosts-crew_at_desk-B-Ledger
ghosts-crew_at_desk-B-Ledger g a = record { name = a.blank.name; parts = a.blank.parts }
