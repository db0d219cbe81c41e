-- That desks and crews lose nothing, where what is committed there is planned.
use Rattle.std.specs.Prelude.{ℕ, ◌<◌, ◌≤◌, List, ◌∷◌, IfOk, IsUtf8}
use mathlib.Core.List.{IsPrefix}
use Rattle.keep_repo.specs.Repository.{Repository}
use Rattle.keep_change.specs.declared.change.Planned.{Planned}
use Rattle.keep_hooks.specs.Guards.{Rule}
use Rattle.keep_sound.specs.Met.{AddsPart}
use Rattle.keep_journal.specs.declared.event.Event.{Event}
use Rattle.keep_ledger.specs.LedgerState.{LedgerState}
use Rattle.keep_pages.specs.Histories.{shown_at}
use Rattle.keep_register.specs.Known.{Known}
use Rattle.keep_desk.specs.Closed.{IsClosed}
use Rattle.keep_jobs.specs.Job.{SettingsData, job_change}
use Rattle.keep_operators.specs.Backups.{backup_of}
use Rattle.keep_operators.specs.Crewed.{IsCrewed}
use Rattle.keep_planned_books.specs.History.{BeginsWhole, IsPlannedHistory}
use Rattle.keep_planned_books.specs.Jobs.{IsOfJob, Meets}
use Rattle.keep_planned_books.specs.Losing.{LosesNothing}

-- the planned history goes on to this book, which has lost nothing
pub record GoesOn (all opening : Repository) (now : LedgerState) : Type 0 where
  pub before : List LedgerState
  pub history : IsPlannedHistory all opening (now ∷ before)
  pub loses : LosesNothing now.live

-- what may be committed by one who has seen a beginning of these events was planned as a job on what that left of the book
abbrev pub AllowsJobs : (allows : List Event → Planned → Type 0) → Repository → LedgerState → List Event → Type 0
AllowsJobs allows all book since =
    (seen : List Event) (p : Planned) → IsPrefix seen since → allows seen p → IsOfJob all (shown_at book seen) p

-- a desk that is opened over a planned history, and where only what was planned may be committed
abbrev pub DesksLoseNothing : (allows : List Event → Planned → Type 0) → Type 0
DesksLoseNothing allows =
    (all opening : Repository) (book now : LedgerState) (earlier : List LedgerState)
    (rules : List Rule) (parts : ℕ) (passes : List Known)
    → BeginsWhole all opening → IsPlannedHistory all opening (book ∷ earlier)
    → (closed : IsClosed allows rules book parts passes now) → AllowsJobs allows all book closed.since
    → GoesOn all opening now

-- what so many operators back up is among all that is met, on whichever beginning of these events they plan it: what they
-- build, be it there already or not, and what they add
pub record MeetsBackups (all : Repository) (settings : SettingsData) (time : List ℕ) (size : ℕ) (book : LedgerState)
    (since : List Event) : Type 0 where
  pub built : (i : ℕ) (seen : List Event) → i < size → IsPrefix seen since
      → Meets all (shown_at book seen) settings (backup_of time i)
  pub added : (i : ℕ) (seen : List Event) → i < size → IsPrefix seen since
      → IfOk (job_change (shown_at book seen) settings (backup_of time i)) (AddsPart all)

-- a crew that works over a planned history
abbrev pub CrewsLoseNothing : Type 0
CrewsLoseNothing =
    (all opening : Repository) (book after : LedgerState) (earlier : List LedgerState) (rules : List Rule)
    (settings : SettingsData) (time : List ℕ) (size accepted last : ℕ)
    → BeginsWhole all opening → IsPlannedHistory all opening (book ∷ earlier) → IsUtf8 time → size ≤ 8
    → (crewed : IsCrewed rules settings time size book after accepted last)
    → MeetsBackups all settings time size book crewed.since
    → GoesOn all opening after
