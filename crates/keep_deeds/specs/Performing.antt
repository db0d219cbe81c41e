-- What comes of a deed.
use Rattle.std.specs.Prelude.{ℕ, false, Result}
use Rattle.keep_acts.specs.Changing.{Changes}
use Rattle.keep_acts.specs.Choosing.{ChangesChosen}
use Rattle.keep_acts.specs.Coming.{Comes}
use Rattle.keep_acts.specs.Pruning.{Prunes}
use Rattle.keep_acts.specs.Shown.{shown_by}
use Rattle.keep_acts.specs.declared.made.Made.{Made}
use Rattle.keep_acts.specs.declared.not_done.NotDone.{NotDone}
use Rattle.keep_acts.specs.declared.outcome.Outcome.{Outcome}
use Rattle.keep_acts.specs.declared.pruning.Pruned as the_pruned
use Rattle.keep_book.specs.Armed.{ledger_of}
use Rattle.keep_book.specs.Cascade.{Cascades}
use Rattle.keep_book.specs.declared.book.Book.{Book}
use Rattle.keep_book.specs.declared.taken_back.TakenBack as the_taken
use Rattle.keep_jobs.specs.Job as job
use Rattle.keep_jobs.specs.Job.{JobData, SettingsData, job_change}
use Rattle.keep_ledger.specs.declared.reply.Refusal.{Refusal}
use Rattle.keep_deeds.specs.Deed.{DeedData, Ask, Cascade, Do, Repair, Mark, Sweep, Prune}
use Rattle.keep_deeds.specs.declared.performing.Came as the_came
use Rattle.keep_deeds.specs.declared.performing.Came.TheVariants.{Asked, Changed, Pruned, TakenBack}

-- it is what came of a request, and this holds of it
abbrev pub IsAsked : (Result Made Refusal → Type 0) → the_came.Came → Type 0
IsAsked Holds (Asked came) = Holds came
IsAsked Holds (TakenBack came) = ⊥
IsAsked Holds (Changed came) = ⊥
IsAsked Holds (Pruned came) = ⊥

-- it is what came of changes that were to be taken back, and this holds of it
abbrev pub IsTakenBack : (the_taken.TakenBack → Type 0) → the_came.Came → Type 0
IsTakenBack Holds (Asked came) = ⊥
IsTakenBack Holds (TakenBack came) = Holds came
IsTakenBack Holds (Changed came) = ⊥
IsTakenBack Holds (Pruned came) = ⊥

-- of a job
abbrev pub IsChanged : (Result Outcome NotDone → Type 0) → the_came.Came → Type 0
IsChanged Holds (Asked came) = ⊥
IsChanged Holds (TakenBack came) = ⊥
IsChanged Holds (Changed came) = Holds came
IsChanged Holds (Pruned came) = ⊥

-- and of a prune
abbrev pub IsPruned : (the_pruned.Pruned → Type 0) → the_came.Came → Type 0
IsPruned Holds (Asked came) = ⊥
IsPruned Holds (TakenBack came) = ⊥
IsPruned Holds (Changed came) = ⊥
IsPruned Holds (Pruned came) = Holds came

-- the job is planned on what the book shows, and committed
abbrev pub DoesJob : {S I F g J E h : _} → Book S I F g J E h → SettingsData → JobData → Result Outcome NotDone
    → Book S I F g J E h → Type 0
DoesJob before settings asked came after =
    Changes before (job_change (shown_by (ledger_of before)) settings asked) false came after

-- just the deed is done
abbrev pub Performs : {S I F g J E h : _} → Book S I F g J E h → SettingsData → DeedData → the_came.Came
    → Book S I F g J E h → Type 0
Performs before settings (Ask request) came after = IsAsked (λ made. Comes before request made after) came
Performs before settings (Cascade n) came after = IsTakenBack (λ back. Cascades before n back after) came
Performs before settings (Do choice task is_dry) came after =
    IsChanged (λ outcome. ChangesChosen before settings choice task is_dry outcome after) came
Performs before settings Repair came after = IsChanged (λ outcome. DoesJob before settings job.Repair outcome after) came
Performs before settings Mark came after = IsChanged (λ outcome. DoesJob before settings job.Mark outcome after) came
Performs before settings (Sweep wait) came after =
    IsChanged (λ outcome. DoesJob before settings (job.Sweep wait) outcome after) came
Performs before settings (Prune wait) came after = IsPruned (λ pruned. Prunes before settings wait false pruned after) came
