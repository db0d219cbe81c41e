-- Which events a sheet can follow.
use Rattle.std.specs.Prelude.{◌≡◌, ◌+◌, ◌<◌, ◌^◌, IfSome}
use Rattle.keep_change.specs.Form.{IsWellFormed}
use Rattle.keep_journal.specs.Event.{commit_of}
use Rattle.keep_journal.specs.History.{final_number, length_of, Fits}
use Rattle.keep_journal.specs.declared.event.Event.{Event}
use Rattle.keep_ledger.specs.Entering.{CanTurnFor}
use Rattle.keep_ledger.specs.LedgerState.{LedgerState}
use Rattle.keep_pages.specs.Histories.{state_with}
use Rattle.keep_pages.specs.Sheet.{SheetState, followed, sheet_of}

-- the change of a commit is well formed
abbrev pub IsFormedEvent : Event → Type 0
IsFormedEvent e = IfSome (commit_of e) (λ n. IsWellFormed n.change)

-- there is a number left for the event, it is about a change that isn't final, and fits; and that change can be
-- turned in the repository
pub record CanFollow (s : SheetState) (e : Event) : Type 0 where
  pub room : length_of s.events + 1 < 2 ^ 64
  pub unfinal : final_number s.events < e.number
  pub fits : Fits s.events e
  pub turns : CanTurnFor s.events e s.live

-- a ledger's sheet can follow the event, and is then the sheet of the ledger with it
pub record Follows (b : LedgerState) (e : Event) : Type 0 where
  pub formed : IsFormedEvent e
  pub can : CanFollow (sheet_of b) e
  pub same : followed (sheet_of b) e ≡ sheet_of (state_with b e)
