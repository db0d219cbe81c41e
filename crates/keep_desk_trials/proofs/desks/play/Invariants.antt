use Rattle.keep_book.specs.Armed.{hooks_of, ledger_of}
use Rattle.keep_desk_trials.proofs.desks.play.Given as goal

-- the list that was just begun
abbrev pub ghosts-play_named-N-Chronicled : goal.ghosts-play_named-N-Chronicled
ghosts-play_named-N-Chronicled g a = record { book = a.opened.sight.book }

-- the book that the desk is opened with
abbrev pub ghosts-play_named-N-Naming : goal.ghosts-play_named-N-Naming
ghosts-play_named-N-Naming g a = record { opening = ledger_of a.keeper; hooks = hooks_of a.keeper; allows = λ seen planned. Unit {0} }

-- the counts that were just made
abbrev pub ghosts-play_named-N-Ledger : goal.ghosts-play_named-N-Ledger
ghosts-play_named-N-Ledger g a = record { name = a.blank.name; parts = a.blank.parts }
