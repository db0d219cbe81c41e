-- Books none of whose snapshots loses a blob, whichever of their changes are taken back and made again.
use Rattle.std.specs.Prelude.{◌≡◌, Bool, List, None, Result}
use Rattle.std.specs.FinSet as set
use Rattle.keep_names.specs.declared.id.Id.{Id}
use Rattle.keep_repo.specs.Repository.{Repository}
use Rattle.keep_change.specs.Fold.{Numbered, first_break, fold_of}
use Rattle.keep_change.specs.declared.change.Change.{Change}
use Rattle.keep_journal.specs.Kept.{unfinal}
use Rattle.keep_hooks.specs.Guards.{Rule}
use Rattle.keep_view.specs.Shown.{known_of}
use Rattle.keep_ledger.specs.LedgerState.{LedgerState, new_ledger}
use Rattle.keep_ledger.specs.Reply.{Replies, state_after}
use Rattle.keep_ledger.specs.declared.reply.Refusal.{Refusal}
use Rattle.keep_journal.specs.declared.request.Told.{Told}
use Rattle.keep_journal.specs.declared.request.Request.{Request}
use Rattle.keep_journal.specs.declared.request.Request.TheVariants.{Commit, Undo, Redo, Empty}
use Rattle.keep_reach.specs.Sound.{IsSound}
use Rattle.keep_sound.specs.Careful.{IsSafe}
use Rattle.keep_sound.specs.Met.{AddsPart, IsPartOf}
use Rattle.keep_sound.specs.Selection.{IsSelection, IsSoundHistory, IsSoundState, known_in}
use Rattle.keep_pages.specs.Histories.{IsOpenLedger}

-- the opening is sound, and each change that isn't final is safe, undone ones too
pub record IsSoundBook (all : Repository) (b : LedgerState) : Type 0 where
  pub is_open : IsOpenLedger b
  pub history : IsSoundHistory all b.opening (unfinal b.events)

-- the snapshots that are known in a book: those of the opening, and those that a change adds which isn't final
abbrev pub known_to : LedgerState → Id → Bool
known_to b = known_in b.opening (unfinal b.events)

-- the change adds files that are met, and is safe for the snapshots that are known in this very book
pub record IsSafeIn (all : Repository) (b : LedgerState) (c : Change) : Type 0 where
  pub adds : AddsPart all c
  pub safe : IsSafe all (known_to b) c

-- so is that of a commit; of other requests nothing is asked
abbrev pub KeepsSound : Repository → LedgerState → Request → Type 0
KeepsSound all b (Commit p) = IsSafeIn all b p.change
KeepsSound all b (Undo n) = Unit {0}
KeepsSound all b (Redo n) = Unit {0}
KeepsSound all b (Empty n) = Unit {0}

-- ---- the laws

-- a book without events is sound, if its opening is
abbrev pub BooksBeginSound : Type 0
BooksBeginSound =
    (all opening : Repository) → IsPartOf opening all → IsSound opening → IsSoundBook all (new_ledger opening)

-- and stays so by each request, whatever is replied
abbrev pub BooksStaySound : Type 0
BooksStaySound =
    (all : Repository) (b : LedgerState) (rules : List Rule) (request : Request) (reply : Result Told Refusal)
    → IsSoundBook all b → KeepsSound all b request → Replies b rules request reply
    → IsSoundBook all (state_after b request reply)

-- whichever of its changes that aren't final are made of the opening, in their order: where all can be made, what they
-- make is sound
abbrev pub SelectionsOfBooksAreSound : Type 0
SelectionsOfBooksAreSound =
    (all : Repository) (b : LedgerState) (chosen : List Numbered) → IsSoundBook all b
    → IsSelection chosen (unfinal b.events) → first_break chosen b.opening ≡ None → IsSoundState all (fold_of chosen b.opening)

-- so is the live repository
abbrev pub BooksAreSound : Type 0
BooksAreSound = (all : Repository) (b : LedgerState) → IsSoundBook all b → IsSoundState all b.live

-- a view of these changes over this opening knows the same snapshots
abbrev pub ViewsKnow : Type 0
ViewsKnow =
    (opening : Repository) (ns : List Numbered) (snapshot : Id)
    → known_in opening ns snapshot ≡ set.contains (known_of opening ns) snapshot
