-- Histories whose changes are all planned as jobs.
use Rattle.std.specs.Prelude.{◌≡◌, ◌⊎◌, List, [], ◌∷◌, Ok}
use Rattle.keep_repo.specs.Repository.{Repository}
use Rattle.keep_hooks.specs.Guards.{Rule}
use Rattle.keep_journal.specs.Lasting.{lasting}
use Rattle.keep_view.specs.Shown.{shown_of}
use Rattle.keep_ledger.specs.LedgerState.{LedgerState, new_ledger}
use Rattle.keep_ledger.specs.Made.{with_event}
use Rattle.keep_ledger.specs.Reply.{Replies}
use Rattle.keep_journal.specs.declared.request.Told.{Told}
use Rattle.keep_journal.specs.declared.request.Request.{Request}
use Rattle.keep_journal.specs.declared.request.Request.TheVariants.{Commit, Undo, Redo, Empty}
use Rattle.keep_sound.specs.Restic.{restic}
use Rattle.keep_sound.specs.Whole.{IsWhole}
use Rattle.keep_safety.specs.Met.{AreFiles, IsMet}
use Rattle.keep_planned_books.specs.Jobs.{IsOfJob}

-- What a history begins with: all that is ever met are files, no blob has two texts among them, and they have the
-- opening, which is whole.
pub record BeginsWhole (all opening : Repository) : Type 0 where
  pub files : AreFiles all
  pub met : IsMet all opening
  pub whole : IsWhole restic opening

-- it is one of these books
abbrev pub IsOneOf : List LedgerState → LedgerState → Type 0
IsOneOf [] on = ⊥
IsOneOf (book ∷ books) on = (on ≡ book) ⊎ IsOneOf books on

-- a commit's change was planned as a job on one of these books; of other requests nothing is asked
abbrev pub IsPlanned : Repository → List LedgerState → Request → Type 0
IsPlanned all books (Commit p) =
    (on : LedgerState) × IsOneOf books on × IsOfJob all (shown_of on.opening on.events on.live) p
IsPlanned all books (Undo n) = Unit {0}
IsPlanned all books (Redo n) = Unit {0}
IsPlanned all books (Empty n) = Unit {0}

-- the book that is read of a shelf which says what this one says: the events that still tell something
abbrev pub read_again : LedgerState → LedgerState
read_again book = record { opening = book.opening; events = lasting book.events; live = book.live }

-- The books of a planned history, the last first: it begins over the opening without events, and each next book is what
-- an accepted request left of the last one. A commit's change may have been planned on an earlier book. Where the shelf
-- is opened again, the history goes on with what is read, and what was planned before is let go.
pub data IsPlannedHistory (all opening : Repository) : List LedgerState → Type 0 where
  begun : IsPlannedHistory all opening (new_ledger opening ∷ [])
  accepted : (book : LedgerState) (earlier : List LedgerState) (vetoes : List Rule) (request : Request) (told : Told)
      → IsPlannedHistory all opening (book ∷ earlier) → IsPlanned all (book ∷ earlier) request
      → Replies book vetoes request (Ok told)
      → IsPlannedHistory all opening (with_event book request ∷ book ∷ earlier)
  opened : (book : LedgerState) (earlier : List LedgerState) → IsPlannedHistory all opening (book ∷ earlier)
      → IsPlannedHistory all opening (read_again book ∷ [])
