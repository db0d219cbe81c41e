-- A copy of a repository under its history, as a value.
use Rattle.std.specs.Prelude.{◌+◌}
use Rattle.keep_repo.specs.Repository.{Repository}
use Rattle.keep_journal.specs.History.{length_of}
use Rattle.keep_journal.specs.Journal.{Journal, posted}
use Rattle.keep_journal.specs.Opening.{IsOpen}
use Rattle.keep_journal.specs.declared.event.Event.{Event}
use Rattle.keep_ledger.specs.Entering.{live_after}
use Rattle.keep_ledger.specs.LedgerState.{LedgerState}

-- the events, and the repository that they left
pub record SheetState : Type 0 where
  pub events : Journal
  pub live : Repository

-- what a ledger's sheet says
abbrev pub sheet_of : LedgerState → SheetState
sheet_of b = record { events = b.events; live = b.live }

-- the sheet after an event: it is posted under the next number, and the change that it is about is turned in the
-- repository
abbrev pub followed : SheetState → Event → SheetState
followed s e = record {
  events = posted s.events (length_of s.events + 1) e;
  live = live_after s.events e s.live;
}

-- the events make the repository of some opening
pub record IsLaid (s : SheetState) : Type 0 where
  pub opening : Repository
  pub is_open : IsOpen opening s.events s.live
