-- What a crew did.
use Rattle.std.specs.Prelude.{◌≡◌, ◌↔◌, ℕ, ◌+◌, ◌<◌, List, [], length, Result, Ok}
use Rattle.std.specs.List.{slice_index_or}
use mathlib.Core.List.{IsPrefix}
use Rattle.keep_change.specs.declared.change.Change.{Change}
use Rattle.keep_change.specs.declared.change.Planned.{Planned}
use Rattle.keep_journal.specs.History.{length_of}
use Rattle.keep_journal.specs.declared.event.Event.{Event}
use Rattle.keep_hooks.specs.Guards.{Rule}
use Rattle.keep_plan.specs.declared.plan_error.PlanError.{PlanError}
use Rattle.keep_view.specs.Shown.{Shown}
use Rattle.keep_ledger.specs.LedgerState.{LedgerState}
use Rattle.keep_journal.specs.declared.request.Told.{Told}
use Rattle.keep_pages.specs.Histories.{shown_at, state_of, IsHistory}
use Rattle.keep_jobs.specs.Job.{SettingsData, job_change}
use Rattle.keep_register.specs.Allowed.{AreAllowed}
use Rattle.keep_register.specs.Known.{Known, fresh}
use Rattle.keep_crew.specs.Asking.{PlansAndCommits, count_of}
use Rattle.keep_crew.specs.Planned.{IsPlanned}
use Rattle.keep_crew.specs.declared.answers.NotTold.{NotTold}
use Rattle.keep_operators.specs.Backups.{backup_of}

-- the change that operator i wants where this is shown: its backup, by these settings, at this time
abbrev pub wanted_of : SettingsData → (time : List ℕ) → ℕ → Shown → Result Change PlanError
wanted_of settings time i shown = job_change shown settings (backup_of time i)

-- what one of so many operators wants on what these events left of a book, planned there
abbrev pub PlansBackup : SettingsData → (time : List ℕ) → (size : ℕ) → LedgerState → List Event → Planned → Type 0
PlansBackup settings time size before seen p =
    (i : ℕ) × (i < size) × IsPlanned (wanted_of settings time i (shown_at before seen)) (shown_at before seen) (Ok p)

-- just that may be committed
abbrev pub AllowsJustBackups : (allows : List Event → Planned → Type 0) → SettingsData → (time : List ℕ) → (size : ℕ)
    → LedgerState → Type 0
AllowsJustBackups allows settings time size before =
    (seen : List Event) (p : Planned) → allows seen p ↔ PlansBackup settings time size before seen p

-- an operator that had seen nothing planned what it wants and asked for that, and what it has seen now begins the list
pub record IsDone (rules : List Rule) (before : LedgerState) (wanted : Shown → Result Change PlanError)
    (since : List Event) (known : Known) : Type 0 where
  pub answer : Result Told NotTold
  pub works : PlansAndCommits rules before wanted fresh known answer
  pub begins : IsPrefix known.seen since

-- so many operators each asked once for their backup, of a book in this state, and left it in another: their events are
-- a history from there on, as many as were accepted, and the last one has this number. Each change among them is the
-- backup of one of them, planned on what a beginning of the events before it left
pub record IsCrewed (rules : List Rule) (settings : SettingsData) (time : List ℕ) (size : ℕ) (before after : LedgerState)
    (accepted last : ℕ) : Type 0 where
  pub since : List Event
  pub left : after ≡ state_of before since
  pub history : IsHistory rules before since
  pub planned : AreAllowed (PlansBackup settings time size before) rules before [] since
  pub known : List Known
  pub all : length known ≡ size
  pub done : (i : ℕ) (d : Known) → i < size → IsDone rules before (wanted_of settings time i) since (slice_index_or known i d)
  pub counted : count_of known ≡ accepted
  pub each : length since ≡ accepted
  pub longer : last ≡ length_of before.events + accepted
