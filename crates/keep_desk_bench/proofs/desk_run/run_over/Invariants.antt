-- The desk is named by the list of its events, the book that it is opened with, and what counts its events. Each change may be
-- committed there.
use Rattle.keep_book.specs.Armed.{hooks_of, ledger_of}
use Rattle.keep_desk_bench.proofs.desk_run.run_over.Given as goal

abbrev pub ghosts-run_named-B-Chronicled : goal.ghosts-run_named-B-Chronicled
ghosts-run_named-B-Chronicled g a = record { book = a.opened.sight.book }

abbrev pub ghosts-run_named-B-Naming : goal.ghosts-run_named-B-Naming
ghosts-run_named-B-Naming g a = record { opening = ledger_of a.keeper; hooks = hooks_of a.keeper; allows = λ seen planned. Unit {0} }

abbrev pub ghosts-run_named-B-Ledger : goal.ghosts-run_named-B-Ledger
ghosts-run_named-B-Ledger g a = record { name = a.blank.name; parts = a.blank.parts }
