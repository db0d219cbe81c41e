-- What is made of the live repository and the events.
use Rattle.std.proofs.Common.{◌≡◌, ℕ, ◌+◌, true, Some, arith, refl}
use Rattle.keep_repo.specs.Repository.{Repository, held}
use Rattle.keep_change.specs.Change.{is_ready}
use Rattle.keep_change.specs.Form.{HasNoFacetTwice}
use Rattle.keep_change.specs.Result.{result_of, reverse_of}
use Rattle.keep_change.specs.declared.change.Change.{Change}
use Rattle.keep_change.proofs.Records.{and_first}
use Rattle.keep_journal.specs.History.{change_of, length_of}
use Rattle.keep_journal.specs.Journal.{posted}
use Rattle.keep_journal.specs.Opening.{IsOpen}
use Rattle.keep_journal.proofs.Later.{well_formed_change}
use Rattle.keep_journal.proofs.Numbers.{is_change_parts}
use Rattle.keep_ledger.specs.LedgerState.{LedgerState}
use Rattle.keep_ledger.specs.Made.{event_of, opening_after}
use Rattle.keep_ledger.specs.Request.{CanBeMade}
use Rattle.keep_journal.specs.declared.request.Request.{Request}
use Rattle.keep_journal.specs.declared.request.Request.TheVariants.{Commit, Undo, Redo, Empty}
use Rattle.keep_change.specs.declared.change.Planned.{Planned}
use Rattle.keep_ledger.proofs.Asking.{free_undo, has_room, met_of, unblocked}
use Rattle.keep_ledger.proofs.Redoing.{can_redo, redone, undone_is_there}
use Rattle.keep_ledger.proofs.Replying.{can_empty}
use Rattle.keep_ledger.proofs.Steps.{open-Commit, open-Empty}
use Rattle.keep_ledger.proofs.Undoing.{can_undo, kept_is_there, undone}

-- the live repository has what the request makes of it: the ledger is open after its event
abbrev pub IsMade : LedgerState → Request → Repository → Type 0
IsMade b request live = IsOpen (opening_after b request) (posted b.events (length_of b.events + 1) (event_of b request)) live

module _ (b : LedgerState) (is : IsOpen b.opening b.events b.live) where
  pub once : (n : ℕ) (c : Change) → change_of b.events n ≡ Some c → HasNoFacetTwice c
  once n c found = (well_formed_change b.events n c is.formed found).once

  -- ---- a commit

  pub ready-Commit : (p : Planned) → CanBeMade b (Commit p) → is_ready (held b.live) p.change ≡ true
  ready-Commit p can_be = and_first _ _ (met_of b p can_be.free)

  pub made-Commit : (p : Planned) → CanBeMade b (Commit p) → IsMade b (Commit p) (result_of p.change b.live)
  made-Commit p can_be =
      open-Commit b.opening b.events b.live _ _ p.change is (omega arith) refl can_be.begins.formed (has_room b p can_be.begins.free).facets (met_of b p can_be.free)

  -- ---- an undo

  pub ready-Undo : (n : ℕ) (c : Change) → CanBeMade b (Undo n) → change_of b.events n ≡ Some c → is_ready (held b.live) (reverse_of c) ≡ true
  ready-Undo n c can_be found = (undone b.opening b.events b.live n c is found (free_undo b n is can_be.begins)).ready

  -- there is such a change, and what its undo leaves
  pub made-Undo : (n : ℕ) → CanBeMade b (Undo n) → (c : Change) × (change_of b.events n ≡ Some c) × IsMade b (Undo n) (result_of (reverse_of c) b.live)
  made-Undo n can_be =
      let can = can_undo b.events n _ can_be.begins.free in
      let found = kept_is_there b.events n is.numbered can.change can.in_it in
      (found.0, found.1, (undone b.opening b.events b.live n found.0 is found.1 (free_undo b n is can_be.begins)).is _ (omega arith))

  -- ---- a redo

  pub ready-Redo : (n : ℕ) (c : Change) → CanBeMade b (Redo n) → change_of b.events n ≡ Some c → is_ready (held b.live) c ≡ true
  ready-Redo n c can_be found = (redone b.opening b.events b.live n c is found can_be.begins.free (unblocked b n is can_be)).ready

  pub made-Redo : (n : ℕ) → CanBeMade b (Redo n) → (c : Change) × (change_of b.events n ≡ Some c) × IsMade b (Redo n) (result_of c b.live)
  made-Redo n can_be =
      let can = can_redo b.events n can_be.begins.free in
      let found = undone_is_there b.events n is.numbered can.change can.above in
      (found.0, found.1, (redone b.opening b.events b.live n found.0 is found.1 can_be.begins.free (unblocked b n is can_be)).is _ (omega arith))

  -- ---- an emptying

  pub made-Empty : (n : ℕ) → CanBeMade b (Empty n) → IsMade b (Empty n) b.live
  made-Empty n can_be =
      let can = can_empty b.events n can_be.begins.free in
      open-Empty b.opening b.events b.live _ n _ is (omega arith) can.above (is_change_parts b.events n can.change).1 refl
