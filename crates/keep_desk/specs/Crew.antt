-- What an operator of a crew does.
use Rattle.std.specs.Prelude.{◌≡◌, List, Result, IsSomeAnd}
use Rattle.keep_change.specs.declared.change.Change.{Change}
use Rattle.keep_journal.specs.declared.request.Request.TheVariants as request
use Rattle.keep_journal.specs.declared.request.Told.{Told}
use Rattle.keep_hooks.specs.Guards.{Rule}
use Rattle.keep_plan.specs.declared.plan_error.PlanError.{PlanError}
use Rattle.keep_view.specs.Shown.{Shown}
use Rattle.keep_ledger.specs.LedgerState.{LedgerState}
use Rattle.keep_register.specs.Known.{Known}
use Rattle.keep_crew.specs.Asking.{Asks, PlansAndCommits}
use Rattle.keep_crew.specs.declared.answers.NotTold.{NotTold}
use Rattle.keep_crew.specs.declared.work.Work.{Work}
use Rattle.keep_crew.specs.declared.work.Work.TheVariants.{Plan, Undo, Redo, Empty}
use Rattle.keep_desk.specs.declared.crew.Operator.{Operator}

-- it did its work, where this is what a plan of it wants
abbrev pub DoesWork : {P : Type 0} → List Rule → LedgerState → (P → Shown → Result Change PlanError) → Work P
    → Known → Known → Result Told NotTold → Type 0
DoesWork rules opening wanted (Plan plans) = PlansAndCommits rules opening (wanted plans)
DoesWork rules opening wanted (Undo n) = Asks rules opening (request.Undo n)
DoesWork rules opening wanted (Redo n) = Asks rules opening (request.Redo n)
DoesWork rules opening wanted (Empty n) = Asks rules opening (request.Empty n)

-- it did its work, which stays, and its answer is there
abbrev pub HasWorked : {B P : Type 0} → List Rule → LedgerState → (P → Shown → Result Change PlanError)
    → Operator B P → Operator B P → Type 0
HasWorked rules opening wanted before after =
    (after.work ≡ before.work) × IsSomeAnd after.answer (DoesWork rules opening wanted before.work before.pass after.pass)
