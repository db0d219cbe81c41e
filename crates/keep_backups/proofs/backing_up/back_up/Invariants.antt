-- The backup is named by the reference to the book, and by what the book says.
use Rattle.keep_book.specs.Armed.{ledger_of}
use Rattle.keep_backups.proofs.backing_up.back_up.Given as goal

abbrev pub ghosts-filled : goal.ghosts-filled
ghosts-filled g a = record { name = a.given.book.ghost_name; before = ledger_of a.given.book.now }
