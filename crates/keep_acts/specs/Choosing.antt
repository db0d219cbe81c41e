-- What comes of a task that is to be done to the snapshots that are chosen.
use Rattle.std.specs.Prelude.{◌≡◌, ◌⊎◌, Bool, Result, Err}
use Rattle.keep_acts.specs.Shown.{shown_by}
use Rattle.keep_book.specs.Armed.{ledger_of}
use Rattle.keep_book.specs.declared.book.Book.{Book}
use Rattle.keep_names.specs.declared.id.Id.{Id}
use Rattle.keep_plan.specs.Needs.{NeedsData, needs_view}
use Rattle.keep_plan.specs.declared.pick.Needs.{Needs}
use Rattle.keep_plan.specs.declared.pick.Pick.{Pick}
use Rattle.keep_plan.specs.declared.pick.Pick.TheVariants as pick
use Rattle.keep_jobs.specs.Job as job
use Rattle.keep_jobs.specs.Job.{SettingsData, TaskData, job_change}
use Rattle.keep_plan.specs.declared.plan_error.PlanError.TheVariants.{Memory}
use Rattle.keep_acts.specs.Changing.{Changes, IsUnasked}
use Rattle.keep_acts.specs.declared.choice.Choice as the_choice
use Rattle.keep_acts.specs.declared.choice.Choice.TheVariants as which
use Rattle.keep_acts.specs.declared.not_done.NotDone.{NotDone}
use Rattle.keep_acts.specs.declared.not_done.NotDone.TheVariants.{Unplanned}
use Rattle.keep_acts.specs.declared.outcome.Outcome.{Outcome}

-- each snapshot, that of this name, or those that meet all that is needed
pub data ChoiceData : Type 0 where
  All : ChoiceData
  Named : Id → ChoiceData
  Meeting : NeedsData → ChoiceData

-- what a `Choice` says
abbrev pub choice_view : the_choice.Choice → ChoiceData
choice_view which.All = All
choice_view (which.Named name) = Named name
choice_view (which.Meeting needs) = Meeting (needs_view needs)

-- the rule asks for just these needs
pub record HasNeeds (needs : NeedsData) (rule : Pick) : Type 0 where
  pub given : Needs
  pub says : needs_view given ≡ needs
  pub is : rule ≡ pick.Meeting given

-- the rule that takes just the snapshots that are chosen
abbrev pub IsRuleOf : ChoiceData → Pick → Type 0
IsRuleOf All rule = rule ≡ pick.Any
IsRuleOf (Named name) rule = rule ≡ pick.Named name
IsRuleOf (Meeting needs) rule = HasNeeds needs rule

-- what comes of the task, where it is done to the snapshots that this rule takes
pub record ByRule {S I F g J E h : _} (before : Book S I F g J E h) (settings : SettingsData) (choice : ChoiceData)
    (task : TaskData) (is_dry : Bool) (came : Result Outcome NotDone) (after : Book S I F g J E h) : Type 0 where
  pub rule : Pick
  pub chosen : IsRuleOf choice rule
  pub changes : Changes before (job_change (shown_by (ledger_of before)) settings (job.Filtered rule task)) is_dry came
      after

-- memory ran out before anything was asked
abbrev pub RunsOut : {S I F g J E h : _} → Book S I F g J E h → Result Outcome NotDone → Book S I F g J E h → Type 0
RunsOut before came after = (came ≡ Err (Unplanned Memory)) × IsUnasked before after

-- what comes of the task for the snapshots that are chosen
abbrev pub ChangesChosen : {S I F g J E h : _} → Book S I F g J E h → SettingsData → ChoiceData → TaskData → Bool
    → Result Outcome NotDone → Book S I F g J E h → Type 0
ChangesChosen before settings choice task is_dry came after =
    RunsOut before came after ⊎ ByRule before settings choice task is_dry came after
