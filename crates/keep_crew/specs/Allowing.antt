-- What operators plan where only some changes may be committed.
use Rattle.std.specs.Prelude.{List, Result, Ok}
use Rattle.keep_change.specs.declared.change.Change.{Change}
use Rattle.keep_change.specs.declared.change.Planned.{Planned}
use Rattle.keep_journal.specs.declared.event.Event.{Event}
use Rattle.keep_plan.specs.declared.plan_error.PlanError.{PlanError}
use Rattle.keep_view.specs.Shown.{Shown}
use Rattle.keep_ledger.specs.LedgerState.{LedgerState}
use Rattle.keep_pages.specs.Histories.{shown_at}
use Rattle.keep_crew.specs.Planned.{IsPlanned}
use Rattle.keep_crew.specs.declared.work.Work.{Work}
use Rattle.keep_crew.specs.declared.work.Work.TheVariants.{Plan, Undo, Redo, Empty}

-- whatever was seen, the change that is wanted on what that left may be committed then
abbrev pub AllowsPlans : (allows : List Event → Planned → Type 0) → LedgerState → (Shown → Result Change PlanError) → Type 0
AllowsPlans allows opening wanted =
    (seen : List Event) (planned : Planned)
    → IsPlanned (wanted (shown_at opening seen)) (shown_at opening seen) (Ok planned) → allows seen planned

-- what an operator is asked for may be done
abbrev pub AllowsWork : {P : Type 0} → (allows : List Event → Planned → Type 0) → LedgerState
    → (P → Shown → Result Change PlanError) → Work P → Type 0
AllowsWork allows opening wanted (Plan plans) = AllowsPlans allows opening (wanted plans)
AllowsWork allows opening wanted (Undo n) = Unit {0}
AllowsWork allows opening wanted (Redo n) = Unit {0}
AllowsWork allows opening wanted (Empty n) = Unit {0}
