-- What comes of a job, by the change that is due: what its planner's definition gives on what the book shows, or refuses.
use Rattle.std.specs.Prelude.{◌≡◌, ◌≢◌, Bool, true, false, Result, Ok, Err}
use Rattle.keep_acts.specs.Shown.{commit_of}
use Rattle.keep_book.specs.Armed.{on_shelf, hooks_of, ledger_of}
use Rattle.keep_book.specs.declared.book.Book.{Book}
use Rattle.keep_change.specs.declared.change.Change.{Change}
use Rattle.keep_ledger.specs.declared.reply.Refusal.{Refusal}
use Rattle.keep_plan.specs.declared.plan_error.PlanError.{PlanError}
use Rattle.keep_plan.specs.declared.plan_error.PlanError.TheVariants.{Memory}
use Rattle.keep_acts.specs.Coming.{Comes}
use Rattle.keep_acts.specs.declared.made.Made.{Made}
use Rattle.keep_acts.specs.declared.not_done.NotDone.{NotDone}
use Rattle.keep_acts.specs.declared.not_done.NotDone.TheVariants.{Refused, Unplanned}
use Rattle.keep_acts.specs.declared.outcome.Outcome.{Outcome}
use Rattle.keep_acts.specs.declared.outcome.Outcome.TheVariants as outcome

-- the book, its shelf with the record of its calls, and what is armed are as they were
pub record IsUnasked {S I F g J E h : _} (before after : Book S I F g J E h) : Type 0 where
  pub ledger : on_shelf after ≡ on_shelf before
  pub hooks : hooks_of after ≡ hooks_of before

-- it is just the refusal that is due, or memory ran out
abbrev pub IsDue : Result Change PlanError → PlanError → Type 0
IsDue due refusal = refusal ≢ Memory → due ≡ Err refusal

-- the book is asked for the commit of just the change that is due, and this comes of it
abbrev pub CommitsDue : {S I F g J E h : _} → Book S I F g J E h → Result Change PlanError → Result Made Refusal
    → Book S I F g J E h → Type 0
CommitsDue before due came after =
    (change : Change) × (due ≡ Ok change) × Comes before (commit_of (ledger_of before) change) came after

-- that; or nothing is planned, and the book is asked for nothing
abbrev pub Commits : {S I F g J E h : _} → Book S I F g J E h → Result Change PlanError → Result Made NotDone
    → Book S I F g J E h → Type 0
Commits before due (Ok made) after = CommitsDue before due (Ok made) after
Commits before due (Err (Refused refusal)) after = CommitsDue before due (Err refusal) after
Commits before due (Err (Unplanned refusal)) after = IsDue due refusal × IsUnasked before after

-- a dry run answers the change that is due, or why none is, and asks the book for nothing
abbrev pub Previews : {S I F g J E h : _} → Book S I F g J E h → Result Change PlanError → Result Outcome NotDone
    → Book S I F g J E h → Type 0
Previews before due (Ok (outcome.Planned change)) after = (due ≡ Ok change) × IsUnasked before after
Previews before due (Ok (outcome.Made made)) after = ⊥
Previews before due (Err (Refused refusal)) after = ⊥
Previews before due (Err (Unplanned refusal)) after = IsDue due refusal × IsUnasked before after

-- any other run commits it
abbrev pub Makes : {S I F g J E h : _} → Book S I F g J E h → Result Change PlanError → Result Outcome NotDone
    → Book S I F g J E h → Type 0
Makes before due (Ok (outcome.Planned change)) after = ⊥
Makes before due (Ok (outcome.Made made)) after = Commits before due (Ok made) after
Makes before due (Err cause) after = Commits before due (Err cause) after

-- what comes of a job, in a dry run and in another
abbrev pub Changes : {S I F g J E h : _} → Book S I F g J E h → Result Change PlanError → Bool → Result Outcome NotDone
    → Book S I F g J E h → Type 0
Changes before due true came after = Previews before due came after
Changes before due false came after = Makes before due came after
