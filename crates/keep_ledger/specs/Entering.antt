-- How an event is entered, and where that stops.
use Rattle.std.specs.Prelude.{◌≡◌, ℕ, ◌≤◌, Bool, true, false, List, ◌∷◌, [], ◌++◌, length, Some, Result, Ok, Err, ◌⊎◌}
use Rattle.std.specs.Option.{option_map_or}
use Rattle.keep_repo.specs.Repository.{Repository, held}
use Rattle.keep_change.specs.Change.{is_ready}
use Rattle.keep_change.specs.Form.{HasNoFacetTwice}
use Rattle.keep_change.specs.Halves.{turned}
use Rattle.keep_change.specs.Result.{result_of}
use Rattle.keep_change.specs.declared.change.Change.{Change}
use Rattle.keep_change.specs.declared.turn.Turn.{Turn}
use Rattle.keep_change.specs.declared.turn.Turn.TheVariants.{Make, TakeBack}
use Rattle.keep_journal.specs.History.{change_of}
use Rattle.keep_journal.specs.Journal.{Journal}
use Rattle.keep_journal.specs.declared.event.Event.{Event}
use Rattle.keep_journal.specs.declared.event.EventKind.{EventKind}
use Rattle.keep_journal.specs.declared.event.EventKind.TheVariants.{Commit, Undo, Redo, Empty}
use Rattle.keep_shelf.specs.Shelved.{Shelved, failed}
use Rattle.keep_moves.specs.Calls as call
use Rattle.keep_moves.specs.Course.{entry_put}
use Rattle.keep_moves.specs.Lists.{moves_turned}
use Rattle.keep_moves.specs.declared.moves.Move.{Move}
use Rattle.keep_ledger.specs.Ends.{FaultsAtEntry}
use Rattle.keep_ledger.specs.OnShelf.{OnShelf, entered}
use Rattle.keep_ledger.specs.Reply.{told_of}
use Rattle.keep_ledger.specs.declared.reply.Refusal.{Refusal}
use Rattle.keep_ledger.specs.declared.reply.Refusal.TheVariants as refusal
use Rattle.keep_journal.specs.declared.request.Told.{Told}
use Rattle.keep_journal.specs.declared.request.Request.{Request}

-- ---- what an event does in memory

-- the change can be turned so in the repository
pub record CanTurn (turn : Turn) (c : Change) (live : Repository) : Type 0 where
  pub once : HasNoFacetTwice c
  pub ready : is_ready (held live) (turned turn c) ≡ true

-- so can change n of the history, if there is one
abbrev pub CanTurnAgain : Journal → ℕ → Turn → Repository → Type 0
CanTurnAgain j n turn live = (c : Change) → change_of j n ≡ Some c → CanTurn turn c live

-- so can the change of the event: an emptying turns none
abbrev pub CanTurnBy : Journal → ℕ → EventKind → Repository → Type 0
CanTurnBy j n (Commit c) live = CanTurn Make c live
CanTurnBy j n Undo live = CanTurnAgain j n TakeBack live
CanTurnBy j n Redo live = CanTurnAgain j n Make live
CanTurnBy j n (Empty marks) live = Unit {0}

abbrev pub CanTurnFor : Journal → Event → Repository → Type 0
CanTurnFor j e live = CanTurnBy j e.number e.kind live

-- the repository with change n of the history turned so
abbrev pub live_again : Journal → ℕ → Turn → Repository → Repository
live_again j n turn live = option_map_or (λ c. result_of (turned turn c) live) (change_of j n) live

-- and after an event
abbrev pub live_by : Journal → ℕ → EventKind → Repository → Repository
live_by j n (Commit c) live = result_of c live
live_by j n Undo live = live_again j n TakeBack live
live_by j n Redo live = live_again j n Make live
live_by j n (Empty marks) live = live

abbrev pub live_after : Journal → Event → Repository → Repository
live_after j e live = live_by j e.number e.kind live

-- the moves of change n of the history, turned so
abbrev pub moves_again : Journal → ℕ → Turn → List Move
moves_again j n turn = option_map_or (λ c. moves_turned turn n c) (change_of j n) []

-- how many files of it come back from the trash
abbrev pub looks_again : Journal → ℕ → Turn → ℕ
looks_again j n turn = option_map_or (λ c. length (turned turn c).adds) (change_of j n) 0

-- ---- on the shelf

-- so many files were read, and the event's entry was written under the number
abbrev pub written_on : ℕ → ℕ → Event → Shelved → Shelved
written_on looks at e shelf = call.played (call.looks looks ++ call.Make (entry_put at e) ∷ []) shelf

-- so many files were read at most, and then a call failed
abbrev pub FailsWithin : ℕ → Shelved → Shelved → Type 0
FailsWithin most before after = (i : ℕ) × (i ≤ most) × (after ≡ failed (call.played (call.looks i) before))

-- why an event isn't entered: memory ran out before any call, or a call failed, of so many reads and the writing of the entry
abbrev pub Stops : Refusal → ℕ → Shelved → Shelved → Type 0
Stops stop most before after = ((stop ≡ refusal.Memory) × (after ≡ before)) ⊎ ((stop ≡ refusal.Fault) × FailsWithin most before after)

-- ---- both

-- whether the refusal has nothing to do with the shelf
abbrev pub is_plain : Refusal → Bool
is_plain refusal.Fault = false
is_plain (refusal.Unsettled n) = false
is_plain _ = true

-- what a request leaves where no move was due, before the moves of its own event are made
abbrev pub Enters : OnShelf → Request → Result Told Refusal → OnShelf → Type 0
Enters b request (Ok told) after = (told ≡ told_of b.state.events request) × (after ≡ entered request b)
Enters b request (Err stop) after =
    ((is_plain stop ≡ true) × (after ≡ b)) ⊎ ((stop ≡ refusal.Fault) × FaultsAtEntry b request after)
