-- What a planner answers is what an operator plans.
use Rattle.std.proofs.Common.{◌≡◌, Result, Ok, Err, IfOk, subst}
use Rattle.keep_docs.specs.Doc.{Answers}
use Rattle.keep_change.specs.declared.change.Change.{Change}
use Rattle.keep_change.specs.declared.change.Planned.{Planned}
use Rattle.keep_plan.specs.declared.plan_error.PlanError.{PlanError}
use Rattle.keep_plan.specs.declared.plan_error.PlanError.TheVariants.{Memory}
use Rattle.keep_view.specs.Shown.{Shown}
use Rattle.keep_crew.specs.Planned.{IsPlanned}

pub is_planned : (due : Result Change PlanError) (shown : Shown) (answer : Result Planned PlanError)
    → Answers Memory (λ (p : Planned). p.change) due answer → IfOk answer (λ (p : Planned). p.seen ≡ shown.length)
    → IsPlanned due shown answer
is_planned due shown (Ok planned) change seen = (change, seen)
is_planned due shown (Err error) change seen = change

-- what a planner answers on a view is what an operator plans on what is shown, where that equals the view
pub planned_on : (wanted : Shown → Result Change PlanError) (view shown : Shown) → view ≡ shown → (answer : Result Planned PlanError)
    → Answers Memory (λ (p : Planned). p.change) (wanted view) answer → IfOk answer (λ (p : Planned). p.seen ≡ view.length)
    → IsPlanned (wanted shown) shown answer
planned_on wanted view shown same answer change seen =
    subst (λ (s : Shown). IsPlanned (wanted s) s answer) same (is_planned (wanted view) view answer change seen)
