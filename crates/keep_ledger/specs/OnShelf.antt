-- A ledger on a shelf as a value, and what becomes of its shelf.
use Rattle.std.specs.Prelude.{ℕ, ◌+◌, ◌≤◌, List, [], ◌∷◌, ◌++◌, drop, length, map, take}
use Rattle.std.specs.FinMap as finite
use Rattle.keep_repo.specs.Repository.{Repository}
use Rattle.keep_journal.specs.History.{length_of}
use Rattle.keep_journal.specs.Journal.{Journal}
use Rattle.keep_journal.specs.Opening.{opening_under}
use Rattle.keep_shelf.specs.Shelved.{Shelved, failed}
use Rattle.keep_touch.specs.declared.touch.Touch.{Touch}
use Rattle.keep_moves.specs.Behind.{IsBehind}
use Rattle.keep_moves.specs.Calls.{Make, looks, played}
use Rattle.keep_moves.specs.Course.{entry_put, looks_of}
use Rattle.keep_moves.specs.Lists.{moves_of}
use Rattle.keep_moves.specs.declared.moves.Move.{Move}
use Rattle.keep_reading.specs.Due.{IsRead}
use Rattle.keep_ledger.specs.LedgerState.{IsConsistent, LedgerState, ledger_of_live}
use Rattle.keep_ledger.specs.Made.{event_of, with_event}
use Rattle.keep_journal.specs.declared.request.Request.{Request}

-- what the ledger says, the moves that are due, in their order, and the shelf
pub record OnShelf : Type 0 where
  pub state : LedgerState
  pub due : List Move
  pub shelf : Shelved

-- the ledger of these events that made this repository, with these moves due on this shelf
abbrev pub ledger_on : Journal → Repository → List Move → Shelved → OnShelf
ledger_on j live due shelf = record { state = ledger_of_live j live; due = due; shelf = shelf }

-- what a ledger keeps true: so many of the last event's moves were made, the others are due, by these the shelf is behind,
-- and what stands there says what the ledger says
pub record IsKept (j : Journal) (live : Repository) (touch : Touch) (moves : List Move) (made : ℕ) (shelf : Shelved) : Type 0 where
  pub consistent : IsConsistent j live touch
  pub within : made ≤ length moves
  pub behind : IsBehind j live (drop made moves) (finite.get shelf.content)
  pub reads : IsRead (opening_under j live) j (drop made moves) (finite.get shelf.content)

-- ---- what calls make of a ledger

-- all moves that were due are made
abbrev pub settled : OnShelf → OnShelf
settled b = record b { due = []; shelf = played (map Make b.due) b.shelf }

-- the first i of them are made, and the others are still due
abbrev pub moved_on : ℕ → OnShelf → OnShelf
moved_on i b = record b { due = drop i b.due; shelf = played (map Make (take i b.due)) b.shelf }

-- so many files of the trash are read
abbrev pub looked : ℕ → OnShelf → OnShelf
looked i b = record b { shelf = played (looks i) b.shelf }

-- a call fails
abbrev pub faulted : OnShelf → OnShelf
faulted b = record b { shelf = failed b.shelf }

-- how many files of the trash are read before the request's event is entered: those that come back
abbrev pub looks_for : LedgerState → Request → ℕ
looks_for b request = looks_of b.events (event_of b request)

-- the moves of the request's event
abbrev pub moves_for : LedgerState → Request → List Move
moves_for b request = moves_of b.events (event_of b request)

-- the event is in: the files that come back were read, its entry was written, and its moves are due
abbrev pub entered : Request → OnShelf → OnShelf
entered request b = record {
  state = with_event b.state request;
  due = moves_for b.state request;
  shelf =
      played (looks (looks_for b.state request) ++ Make (entry_put (length_of b.state.events + 1) (event_of b.state request)) ∷ [])
      b.shelf;
}
