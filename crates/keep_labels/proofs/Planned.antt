-- What a planner answers is planned on what is shown.
use Rattle.std.proofs.Common.{◌≡◌, true, IfOk, Result, Ok, Err}
use Rattle.keep_repo.specs.Repository.{held}
use Rattle.keep_change.specs.Change.{is_met}
use Rattle.keep_change.specs.Form.{IsWellFormed}
use Rattle.keep_change.specs.declared.change.Change.{Change}
use Rattle.keep_change.specs.declared.change.Planned.{Planned}
use Rattle.keep_docs.specs.Doc.{Answers}
use Rattle.keep_view.specs.Planned.{IsPlannedOn}
use Rattle.keep_view.specs.Shown.{Shown}
use Rattle.keep_plan.specs.declared.plan_error.PlanError.{PlanError}
use Rattle.keep_plan.specs.declared.plan_error.PlanError.TheVariants.{Memory}

-- it is, where the change that is due can be made
pub planned_so : (shown : Shown) (due : Result Change PlanError) → ((change : Change) → due ≡ Ok change → IsWellFormed change)
    → ((change : Change) → due ≡ Ok change → is_met (held shown.repo) change ≡ true) → (result : Result Planned PlanError)
    → Answers Memory (λ (p : Planned). p.change) due result → IfOk result (λ p. p.seen ≡ shown.length) → IfOk result (IsPlannedOn shown)
planned_so shown due formed met (Ok planned) is seen =
    record { well_formed = formed planned.change is; met = met planned.change is; seen = seen }
planned_so shown due formed met (Err error) is seen = tt
