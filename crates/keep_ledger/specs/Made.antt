-- What an accepted request makes of a ledger.
use Rattle.std.specs.Prelude.{◌+◌}
use Rattle.keep_repo.specs.Repository.{Repository}
use Rattle.keep_change.specs.Fold.{fold_of}
use Rattle.keep_change.specs.Marks.{marks_of}
use Rattle.keep_journal.specs.History.{last_change, length_of}
use Rattle.keep_journal.specs.Journal.{Journal, posted}
use Rattle.keep_journal.specs.Kept.{kept, up_to}
use Rattle.keep_journal.specs.declared.event.Event.{Event}
use Rattle.keep_journal.specs.Event as event
use Rattle.keep_ledger.specs.LedgerState.{LedgerState}
use Rattle.keep_journal.specs.declared.request.Request.{Request}
use Rattle.keep_journal.specs.declared.request.Request.TheVariants.{Commit, Undo, Redo, Empty}

-- the opening after an accepted request: an emptying moves it over the changes that become final
abbrev pub opening_after : LedgerState → Request → Repository
opening_after b (Commit p) = b.opening
opening_after b (Undo n) = b.opening
opening_after b (Redo n) = b.opening
opening_after b (Empty n) = fold_of (up_to b.events n) b.opening

-- the event of an accepted request: a commit gets the next number, and an emptying has the marks of the opening after it
abbrev pub event_of : LedgerState → Request → Event
event_of b (Commit p) = event.committing (last_change b.events + 1) p.change
event_of b (Undo n) = event.undoing n
event_of b (Redo n) = event.redoing n
event_of b (Empty n) = event.emptying n (marks_of (opening_after b (Empty n)))

-- a ledger of these events over this opening: what its kept changes make of it is there
abbrev pub ledger_over : Repository → Journal → LedgerState
ledger_over opening j = record { opening = opening; events = j; live = fold_of (kept j) opening }

-- the ledger with the request's event
abbrev pub with_event : LedgerState → Request → LedgerState
with_event b request =
    ledger_over (opening_after b request) (posted b.events (length_of b.events + 1) (event_of b request))
