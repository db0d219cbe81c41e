-- That planned histories lose nothing.
use Rattle.std.specs.Prelude.{◌≡◌, ◌≢◌, ℕ, List, [], ◌∷◌, All, None, Result, Err}
use Rattle.keep_repo.specs.Repository.{Repository}
use Rattle.keep_change.specs.Fold.{Numbered, first_break, fold_of}
use Rattle.keep_sound.specs.Selection.{IsSelection}
use Rattle.keep_hooks.specs.Guards.{Rule}
use Rattle.keep_journal.specs.Kept.{unfinal}
use Rattle.keep_shelf.specs.Shelved.{Shelved}
use Rattle.keep_ledger.specs.Ends.{heard}
use Rattle.keep_ledger.specs.LedgerState.{LedgerState}
use Rattle.keep_ledger.specs.OnShelf.{OnShelf}
use Rattle.keep_ledger.specs.Opened.{IsOpened}
use Rattle.keep_ledger.specs.Reply.{Replies, state_after}
use Rattle.keep_ledger.specs.Stops.{Says}
use Rattle.keep_ledger.specs.declared.reply.Refusal.{Refusal}
use Rattle.keep_ledger.specs.declared.reply.Refusal.TheVariants.{Fault}
use Rattle.keep_journal.specs.declared.request.Told.{Told}
use Rattle.keep_journal.specs.declared.request.Request.{Request}
use Rattle.keep_book.specs.Cascade.{AreUndone, with_undos}
use Rattle.keep_read.specs.Findings.{findings_in}
use Rattle.keep_read.specs.Losses.{LosesNoBlob}
use Rattle.keep_sound.specs.Restic.{restic}
use Rattle.keep_sound.specs.Whole.{IsWhole}
use Rattle.keep_planned_books.specs.History.{BeginsWhole, IsPlanned, IsPlannedHistory}

-- each blob that a snapshot reaches is there, so an audit finds no snapshot broken for a blob that is missing, or whose
-- bytes have another hash
pub record LosesNothing (r : Repository) : Type 0 where
  pub whole : IsWhole restic r
  pub audit : All LosesNoBlob (findings_in r)

-- whichever of the changes that aren't final are made of the opening, in their order, where they can be made
abbrev pub SelectionsLoseNothing : Type 0
SelectionsLoseNothing =
    (all opening : Repository) (book : LedgerState) (earlier : List LedgerState) (chosen : List Numbered)
    → BeginsWhole all opening → IsPlannedHistory all opening (book ∷ earlier)
    → IsSelection chosen (unfinal book.events) → first_break chosen book.opening ≡ None
    → LosesNothing (fold_of chosen book.opening)

-- the present repository
abbrev pub BooksLoseNothing : Type 0
BooksLoseNothing =
    (all opening : Repository) (book : LedgerState) (earlier : List LedgerState)
    → BeginsWhole all opening → IsPlannedHistory all opening (book ∷ earlier) → LosesNothing book.live

-- what is opened of a shelf that says what the book says, wherever the last run stopped: the history goes on with it
abbrev pub OpeningsLoseNothing : Type 0
OpeningsLoseNothing =
    (all opening : Repository) (book : LedgerState) (earlier : List LedgerState) (shelf : Shelved) (read : OnShelf)
    → BeginsWhole all opening → IsPlannedHistory all opening (book ∷ earlier)
    → Says book shelf.content → IsOpened shelf read
    → IsPlannedHistory all opening (read.state ∷ []) × LosesNothing read.state.live

-- what any answer to a commit, an undo, a redo or an emptying leaves, also where the shelf fails
abbrev pub AnswersLoseNothing : Type 0
AnswersLoseNothing =
    (all opening : Repository) (book : LedgerState) (earlier : List LedgerState)
    (vetoes : List Rule) (request : Request) (reply : Result Told Refusal)
    → BeginsWhole all opening → IsPlannedHistory all opening (book ∷ earlier)
    → IsPlanned all (book ∷ earlier) request
    → (reply ≢ Err Fault → Replies book vetoes request (heard book request reply))
    → LosesNothing (state_after book request (heard book request reply)).live

-- what the undos of a cascade leave, each of which is accepted in turn: the history goes on with it
abbrev pub CascadesLoseNothing : Type 0
CascadesLoseNothing =
    (all opening : Repository) (book : LedgerState) (earlier : List LedgerState) (numbers : List ℕ)
    → BeginsWhole all opening → IsPlannedHistory all opening (book ∷ earlier) → AreUndone book numbers
    → ((between : List LedgerState) × IsPlannedHistory all opening (with_undos book numbers ∷ between))
    × LosesNothing (with_undos book numbers).live
