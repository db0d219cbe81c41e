-- What a sheet knows of the changes of its history: that they are well formed, and so which can be turned.
use Rattle.std.proofs.Common.{◌≡◌, ◌∙◌, ◌↔◌, ℕ, Bool, IsTrue, Some, subst, sym}
use Rattle.std.proofs.lemmas.List.Elements.{All-push}
use Rattle.std.proofs.lemmas.Option.{same_Some}
use Rattle.keep_repo.specs.Repository.{Repository, held}
use Rattle.keep_change.specs.Change.{is_ready}
use Rattle.keep_change.specs.Fold.{Numbered}
use Rattle.keep_change.specs.Form.{IsWellFormed}
use Rattle.keep_change.specs.Halves.{turned}
use Rattle.keep_change.specs.declared.change.Change.{Change}
use Rattle.keep_change.specs.declared.turn.Turn.{Turn}
use Rattle.keep_journal.specs.History.{change_of, committed}
use Rattle.keep_journal.specs.Journal.{Journal, posted}
use Rattle.keep_journal.specs.Opening.{AreWellFormed}
use Rattle.keep_journal.specs.declared.event.Event.{Event}
use Rattle.keep_journal.specs.declared.event.EventKind.{EventKind}
use Rattle.keep_journal.specs.declared.event.EventKind.TheVariants.{Commit, Undo, Redo, Empty}
use Rattle.keep_journal.proofs.Commits.{committed-Commit, committed-Empty, committed-Redo, committed-Undo}
use Rattle.keep_journal.proofs.Later.{well_formed_change}
use Rattle.keep_ledger.specs.Entering.{CanTurn, CanTurnAgain}
use Rattle.keep_pages.specs.Following.{IsFormedEvent}

pub turns_again : (j : Journal) (n : ℕ) (turn : Turn) (live : Repository) (c : Change) (r : Bool) → AreWellFormed j → change_of j n ≡ Some c
    → r ≡ is_ready (held live) (turned turn c) → IsTrue r ↔ CanTurnAgain j n turn live
turns_again j n turn live c r formed found tested = (λ ready d is. subst (λ (e : Change). CanTurn turn e live) (same_Some c d (sym found ∙ is)) (it ready), λ can. tested ∙ (can c found).ready) where
  it : IsTrue r → CanTurn turn c live
  it ready = record { once = (well_formed_change j n c formed found).once; ready = sym tested ∙ ready }

-- the changes of a history stay well formed with one more event whose change is
pub formed_push : (j : Journal) (k : ℕ) (e : Event) → AreWellFormed j → IsFormedEvent e → AreWellFormed (posted j k e)
formed_push j k e = by e.number e.kind where
  by : (n : ℕ) (kind : EventKind) → AreWellFormed j → IsFormedEvent (record { number = n; kind = kind })
      → AreWellFormed (posted j k (record { number = n; kind = kind }))
  by n (Commit c) formed own =
      rw (committed-Commit j k n c) (All-push (λ (m : Numbered). IsWellFormed m.change) (committed j) (record { number = n; change = c }) formed own)
  by n Undo formed own = rw (committed-Undo j k n) formed
  by n Redo formed own = rw (committed-Redo j k n) formed
  by n (Empty marks) formed own = rw (committed-Empty j k n marks) formed
