-- The last event of a history.
use Rattle.std.proofs.Common.{◌≡◌, ℕ, Some}
use Rattle.keep_repo.specs.Repository.{Repository}
use Rattle.keep_journal.specs.Journal.{Journal}
use Rattle.keep_journal.specs.Opening.{IsOpen}
use Rattle.keep_journal.specs.declared.event.Event.{Event}
use Rattle.keep_journal.specs.declared.event.EventKind.{EventKind}
use Rattle.keep_journal.specs.declared.event.EventKind.TheVariants.{Commit, Undo, Redo, Empty}
use Rattle.keep_journal.proofs.Later.{well_formed_change}
use Rattle.keep_reading.specs.Settled.{last_event}
use Rattle.keep_opening.proofs.Lasting.{commit_told}
use Rattle.keep_pages.specs.Following.{IsFormedEvent}

-- the change of the last event, if it is a commit, is well formed
pub formed_last : (opening : Repository) (j : Journal) (live : Repository) (e : Event) → IsOpen opening j live → last_event j ≡ Some e
    → IsFormedEvent e
formed_last opening j live e is last = by e.number e.kind last where
  by : (n : ℕ) (kind : EventKind) → last_event j ≡ Some (record { number = n; kind = kind }) → IsFormedEvent (record { number = n; kind = kind })
  by n (Commit c) last = well_formed_change j n c is.formed (commit_told j n c is.legal last)
  by n Undo last = tt
  by n Redo last = tt
  by n (Empty marks) last = tt
