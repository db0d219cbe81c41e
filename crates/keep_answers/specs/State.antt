-- What the lines of a run work on.
use Rattle.std.specs.Prelude.{ℕ, Bool, true, false, ◌||◌, List, Option, Some, None, Result, Err, if◌then◌else◌}
use Rattle.std.specs.BTreeMap.{get_by_text}
use Rattle.std.specs.Str.{bytes_eq}
use Rattle.keep_repo.specs.Repository.{Repository}
use Rattle.keep_shelf.specs.Shelved.{Shelved}
use Rattle.keep_moves.specs.declared.moves.Move.{Move}
use Rattle.keep_book.specs.Armed.{hooks_of, ledger_of, on_shelf}
use Rattle.keep_ledger.specs.LedgerState.{LedgerState}
use Rattle.keep_ledger.specs.OnShelf.{OnShelf}
use Rattle.keep_ledger.specs.declared.reply.Refusal.{Refusal}
use Rattle.keep_ledger.specs.declared.reply.Refusal.TheVariants.{Fault, Unsettled}
use Rattle.keep_journal.specs.declared.request.Told.{Told}
use Rattle.keep_book.specs.declared.book.Book.{Book}
use Rattle.keep_hooks.specs.Guards.{HooksData, Rule, WatchData}
use Rattle.keep_jobs.specs.Kits.{KitData, NamedRule}
use Rattle.keep_jobs.specs.Job.{SettingsData, settings_view}
use Rattle.keep_answers.specs.declared.notes.Notes.{Notes}
use Rattle.keep_answers.specs.declared.session.Session.{Session}

-- what jobs go by, and the filters that lines may name; a book, the moves that are due, and its shelf; what is armed over
-- it, and the vetoes and watches that can still be armed; under each name the repository that was noted last; and whether
-- a line of the run was answered that a call of the shelf failed
pub record State : Type 0 where
  pub settings : SettingsData
  pub filters : List NamedRule
  pub book : LedgerState
  pub due : List Move
  pub shelf : Shelved
  pub armed : HooksData
  pub spare_vetoes : List Rule
  pub spare_watches : List WatchData
  pub notes : List ℕ → Option Repository
  pub faulted : Bool

-- the book's ledger, on its shelf
abbrev pub ledger_in : State → OnShelf
ledger_in state = record { state = state.book; due = state.due; shelf = state.shelf }

-- no notes
abbrev pub no_notes : List ℕ → Option Repository
no_notes name = None

-- the notes with one more, in the place of an older one of the name
abbrev pub noted_under : List ℕ → Repository → (List ℕ → Option Repository) → List ℕ → Option Repository
noted_under name repository notes other = if bytes_eq name other then Some repository else notes other

-- what is noted under each name
abbrev pub notes_of : Notes → List ℕ → Option Repository
notes_of notes name = get_by_text notes.held name

-- whether the reply is that a call of the shelf failed, before the event was in or after
abbrev pub is_fault : Result Told Refusal → Bool
is_fault (Err Fault) = true
is_fault (Err (Unsettled n)) = true
is_fault reply = false

-- whether what stopped the book is that a call of the shelf failed
abbrev pub is_stopped_by_fault : Option Refusal → Bool
is_stopped_by_fault None = false
is_stopped_by_fault (Some refusal) = is_fault (Err refusal)

-- the session once the book has replied
abbrev pub session_after : Session → Result Told Refusal → Session
session_after session reply = record session { faulted = session.faulted || is_fault reply }

-- the session once the book has taken changes back, and was stopped by this
abbrev pub session_stopped : Session → Option Refusal → Session
session_stopped session stopped = record session { faulted = session.faulted || is_stopped_by_fault stopped }

-- the state that these are, with what the kit still has
abbrev pub state_of : {S I F g J E h : _} → KitData → Session → Book S I F g J E h → State
state_of kit session book = record {
  settings = settings_view session.settings;
  filters = kit.filters;
  book = ledger_of book;
  due = (on_shelf book).due;
  shelf = (on_shelf book).shelf;
  armed = hooks_of book;
  spare_vetoes = kit.vetoes;
  spare_watches = kit.watches;
  notes = notes_of session.notes;
  faulted = session.faulted;
}

-- the kit that goes with the state: its filters, and what can still be armed
abbrev pub kit_of : State → KitData
kit_of state = record { filters = state.filters; vetoes = state.spare_vetoes; watches = state.spare_watches }
