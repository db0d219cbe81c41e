-- What an operator plans on what it is shown.
use Rattle.std.specs.Prelude.{◌≡◌, ◌≢◌, Result, Ok, Err}
use Rattle.keep_change.specs.declared.change.Change.{Change}
use Rattle.keep_change.specs.declared.change.Planned.{Planned}
use Rattle.keep_plan.specs.declared.plan_error.PlanError.{PlanError}
use Rattle.keep_plan.specs.declared.plan_error.PlanError.TheVariants.{Memory}
use Rattle.keep_view.specs.Shown.{Shown}

-- the change that is due on what is shown, with the length there; or the refusal that is due. Want of memory alone is
-- free
abbrev pub IsPlanned : Result Change PlanError → Shown → Result Planned PlanError → Type 0
IsPlanned due shown (Ok planned) = (due ≡ Ok planned.change) × (planned.seen ≡ shown.length)
IsPlanned due shown (Err error) = error ≢ Memory → due ≡ Err error
