-- What comes of a prune: a mark, and then a sweep.
use Rattle.std.specs.Prelude.{◌≡◌, ℕ, Bool, true, false, Option, None, Some, is_some, Result, Ok, Err}
use Rattle.keep_acts.specs.Shown.{shown_by}
use Rattle.keep_book.specs.Armed.{ledger_of}
use Rattle.keep_book.specs.declared.book.Book.{Book}
use Rattle.keep_jobs.specs.Job as job
use Rattle.keep_jobs.specs.Job.{SettingsData, job_change}
use Rattle.keep_plan.specs.declared.plan_error.PlanError.TheVariants.{NothingToDo}
use Rattle.keep_acts.specs.Changing.{Changes}
use Rattle.keep_acts.specs.declared.not_done.NotDone.{NotDone}
use Rattle.keep_acts.specs.declared.not_done.NotDone.TheVariants.{Unplanned}
use Rattle.keep_acts.specs.declared.outcome.Outcome.{Outcome}
use Rattle.keep_acts.specs.declared.pruning.Pruned.{Pruned}

-- whether the sweep follows: the mark came to something, or there was nothing to mark
abbrev pub goes_on : Result Outcome NotDone → Bool
goes_on (Ok outcome) = true
goes_on (Err (Unplanned NothingToDo)) = true
goes_on (Err cause) = false

-- this comes of the mark
abbrev pub Marks : {S I F g J E h : _} → Book S I F g J E h → SettingsData → Bool → Result Outcome NotDone
    → Book S I F g J E h → Type 0
Marks before settings is_dry came after =
    Changes before (job_change (shown_by (ledger_of before)) settings job.Mark) is_dry came after

-- this of the sweep, where one follows
abbrev pub Sweeps : {S I F g J E h : _} → Book S I F g J E h → SettingsData → ℕ → Bool → Option (Result Outcome NotDone)
    → Book S I F g J E h → Type 0
Sweeps before settings wait is_dry None after = after ≡ before
Sweeps before settings wait is_dry (Some came) after =
    Changes before (job_change (shown_by (ledger_of before)) settings (job.Sweep wait)) is_dry came after

-- the mark is asked for first, and the sweep on what it leaves
pub record Prunes {S I F g J E h : _} (before : Book S I F g J E h) (settings : SettingsData) (wait : ℕ) (is_dry : Bool)
    (came : Pruned) (after : Book S I F g J E h) : Type 0 where
  pub marked : Book S I F g J E h
  pub marks : Marks before settings is_dry came.mark marked
  pub follows : goes_on came.mark ≡ is_some came.sweep
  pub sweeps : Sweeps marked settings wait is_dry came.sweep after
