-- What is published, and what takes it on.
use Rattle.std.specs.Prelude.{◌≡◌, List}
use Rattle.logbook.specs.Pages.{Book}
use Rattle.keep_journal.specs.declared.event.Event.{Event}
use Rattle.keep_hooks.specs.Guards.{Rule}
use Rattle.keep_ledger.specs.LedgerState.{LedgerState}
use Rattle.keep_chronicle.specs.Chronicle.{events_of}
use Rattle.keep_chronicle.specs.declared.note.Note.{Note}
use Rattle.keep_pages.specs.Histories.{state_of, IsHistory}
use Rattle.keep_pages.specs.Sheet.{SheetState, followed, sheet_of}

-- a page: the notes that its token has seen, of which book, and the copy of the repository under its history
pub record PageState : Type 0 where
  pub book : Book
  pub log : List Note
  pub sheet : SheetState

-- a step: an event, and the notes with it that its token has seen, of which book
pub record StepState : Type 0 where
  pub book : Book
  pub log : List Note
  pub event : Event

-- the page after a step
abbrev pub page_after : PageState → StepState → PageState
page_after p s = record { book = s.book; log = s.log; sheet = followed p.sheet s.event }

-- the events of the page's list
abbrev pub events_on : PageState → List Event
events_on p = events_of p.log

-- a page of this list of events: they are a history from the opening on, and it shows what they leave
pub record IsPage (book : Book) (rules : List Rule) (opening : LedgerState) (p : PageState) : Type 0 where
  pub same : p.book ≡ book
  pub history : IsHistory rules opening (events_on p)
  pub shows : p.sheet ≡ sheet_of (state_of opening (events_on p))

-- the step to the page of this list, which ends with the event
pub record IsStep (book : Book) (es : List Event) (event : Event) (s : StepState) : Type 0 where
  pub same : s.book ≡ book
  pub whole : events_of s.log ≡ es
  pub last : s.event ≡ event
