-- What an operator of a crew asks of a desk.
use Rattle.std.specs.Prelude.{◌≡◌, ℕ, List, Result, Ok, Err, sum_by}
use mathlib.Core.List.{IsPrefix}
use Rattle.keep_change.specs.declared.change.Change.{Change}
use Rattle.keep_change.specs.declared.change.Planned.{Planned}
use Rattle.keep_journal.specs.declared.request.Request.{Request}
use Rattle.keep_journal.specs.declared.request.Request.TheVariants as request
use Rattle.keep_journal.specs.declared.request.Told.{Told}
use Rattle.keep_hooks.specs.Guards.{Rule}
use Rattle.keep_plan.specs.declared.plan_error.PlanError.{PlanError}
use Rattle.keep_view.specs.Shown.{Shown}
use Rattle.keep_ledger.specs.LedgerState.{LedgerState}
use Rattle.keep_pages.specs.Histories.{shown_at}
use Rattle.keep_register.specs.Asked.{counted_after}
use Rattle.keep_register.specs.Known.{Known}
use Rattle.keep_crew.specs.Answered.{IsAnswered, has_event}
use Rattle.keep_crew.specs.Planned.{IsPlanned}
use Rattle.keep_crew.specs.declared.answers.DeskError.{DeskError}
use Rattle.keep_crew.specs.declared.answers.NotTold.{NotTold}
use Rattle.keep_crew.specs.declared.answers.NotTold.TheVariants.{Unanswered, Unplanned}

-- how many events these passes count
abbrev pub count_of : List Known → ℕ
count_of passes = sum_by (λ p. p.counted) passes

-- the desk's answer, as an operator's
abbrev pub as_told : Result Told DeskError → Result Told NotTold
as_told (Ok told) = Ok told
as_told (Err error) = Err (Unanswered error)

-- it asked the desk for this, with this answer, and counts its event where that is in
pub record Asks (rules : List Rule) (opening : LedgerState) (request : Request) (before after : Known)
    (answer : Result Told NotTold) : Type 0 where
  pub given : Result Told DeskError
  pub answer_is : answer ≡ as_told given
  pub answered : IsAnswered rules opening request before after given
  pub counted : after.counted ≡ counted_after (has_event given) before.counted

-- it asked the desk to commit what it planned; or its planner refused, and its answer says why
abbrev pub CommitsPlanned : List Rule → LedgerState → Known → Known → Result Told NotTold → Result Planned PlanError → Type 0
CommitsPlanned rules opening shown after answer (Ok planned) = Asks rules opening (request.Commit planned) shown after answer
CommitsPlanned rules opening shown after answer (Err why) = (answer ≡ Err (Unplanned why)) × (after ≡ shown)

-- it was shown what a list of events left, which begins with what it had seen, and planned on that
pub record PlansAndCommits (rules : List Rule) (opening : LedgerState) (wanted : Shown → Result Change PlanError)
    (before after : Known) (answer : Result Told NotTold) : Type 0 where
  pub shown : Known
  pub begins : IsPrefix before.seen shown.seen
  pub counted : shown.counted ≡ before.counted
  pub planned : Result Planned PlanError
  pub is_planned : let view = shown_at opening shown.seen in IsPlanned (wanted view) view planned
  pub commits : CommitsPlanned rules opening shown after answer planned
