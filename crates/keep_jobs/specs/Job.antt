-- Jobs as data, and the changes that they ask for.
use Rattle.std.specs.Prelude.{ℕ, ℤ, Bool, false, List, map, string_bytes, Option, Some, None, Result, Err}
use Rattle.keep_backup.specs.Backup.{FactsData, backup_change, facts_view}
use Rattle.keep_backup.specs.Files.{given_view}
use Rattle.keep_change.specs.declared.change.Change.{Change}
use Rattle.keep_plan.specs.declared.pick.Pick.{Pick}
use Rattle.keep_jobs.specs.Patterns.{patterns_in}
use Rattle.keep_jobs.specs.declared.job.Job as the_job_type
use Rattle.keep_jobs.specs.declared.job.Job.TheVariants as the_job
use Rattle.keep_jobs.specs.declared.job.Settings.{Settings}
use Rattle.keep_jobs.specs.declared.job.Task as the_task_type
use Rattle.keep_jobs.specs.declared.job.Task.TheVariants as the_task
use Rattle.keep_labels.specs.Edits.{EditData, edit_view, is_bad_edit}
use Rattle.keep_labels.specs.Forgetting.{forget_change}
use Rattle.keep_labels.specs.Keeping.{PolicyData, policy_view}
use Rattle.keep_labels.specs.Tagging.{tag_change}
use Rattle.keep_plan.specs.declared.plan_error.PlanError.{PlanError}
use Rattle.keep_plan.specs.declared.plan_error.PlanError.TheVariants.{BadPattern}
use Rattle.keep_repo.specs.Repository.{Repository}
use Rattle.keep_rewrite.specs.Rewriting.{rewrite_change}
use Rattle.keep_patterns.specs.Parsing.{PatternData}
use Rattle.keep_upkeep.specs.Mark.{mark_change}
use Rattle.keep_upkeep.specs.Repair.{repair_change}
use Rattle.keep_upkeep.specs.Sweep.{sweep_change}
use Rattle.keep_view.specs.Shown.{Shown}

-- what all jobs go by: after how many bytes backups cut files, and the moment, in whole seconds since 1970
pub record SettingsData : Type 0 where
  pub cut : ℕ
  pub now : ℤ

abbrev pub settings_view : Settings → SettingsData
settings_view settings = record { cut = settings.cut.bytes; now = settings.now }

-- ---- what is asked for

-- what is done to the snapshots that a filter takes
pub data TaskData : Type 0 where
  Tag : EditData → TaskData
  Forget : PolicyData → TaskData
  Rewrite : Bool → List (List ℕ) → TaskData

-- what one planner is asked for; a filter is the rule that it answers by
pub data JobData : Type 0 where
  Backup : FactsData → List (List ℕ × List ℕ) → JobData
  Filtered : Pick → TaskData → JobData
  Repair : JobData
  Mark : JobData
  Sweep : ℕ → JobData

abbrev pub task_view : the_task_type.Task → TaskData
task_view (the_task.Tag edit) = Tag (edit_view edit)
task_view (the_task.Forget policy) = Forget (policy_view policy)
task_view (the_task.Rewrite forget patterns) = Rewrite forget (map string_bytes patterns.items)

-- what a job says, by the rule of what holds its filter
abbrev pub job_view : {F : Type 0} → (F → Pick) → the_job_type.Job F → JobData
job_view rule (the_job.Backup facts files) = Backup (facts_view facts) (map given_view files.items)
job_view rule (the_job.Filtered filter task) = Filtered (rule filter) (task_view task)
job_view rule the_job.Repair = Repair
job_view rule the_job.Mark = Mark
job_view rule (the_job.Sweep wait) = Sweep wait

-- ---- what is planned

-- the change of a rewrite by these patterns, where all texts spell some
abbrev pub rewriting : Repository → Pick → Bool → Option (List PatternData) → Result Change PlanError
rewriting r rule forget None = Err BadPattern
rewriting r rule forget (Some patterns) = rewrite_change r rule patterns forget

-- the change that does the task to the snapshots that the rule takes, or why there is none
abbrev pub task_change : Repository → Pick → TaskData → Result Change PlanError
task_change r rule (Tag edit) = tag_change r rule edit
task_change r rule (Forget policy) = forget_change r rule policy
task_change r rule (Rewrite forget patterns) = rewriting r rule forget (patterns_in patterns)

-- the change that a job asks for on what is shown, or why there is none
abbrev pub job_change : Shown → SettingsData → JobData → Result Change PlanError
job_change shown settings (Backup facts files) = backup_change shown.repo facts settings.cut files
job_change shown settings (Filtered rule task) = task_change shown.repo rule task
job_change shown settings Repair = repair_change shown.repo
job_change shown settings Mark = mark_change shown.repo shown.known settings.now
job_change shown settings (Sweep wait) = sweep_change shown.repo settings.now wait

-- whether it is an edit of tags that is bad
abbrev pub is_bad_task : TaskData → Bool
is_bad_task (Tag edit) = is_bad_edit edit
is_bad_task (Forget policy) = false
is_bad_task (Rewrite forget patterns) = false

-- whether a job asks for such a one
abbrev pub has_bad_edit : JobData → Bool
has_bad_edit (Filtered rule task) = is_bad_task task
has_bad_edit (Backup facts files) = false
has_bad_edit Repair = false
has_bad_edit Mark = false
has_bad_edit (Sweep wait) = false
