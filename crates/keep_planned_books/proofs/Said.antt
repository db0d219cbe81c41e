-- What a job is asked for in texts is such.
use Rattle.keep_plan.specs.declared.pick.Pick.{Pick}
use Rattle.keep_jobs.specs.Job.{job_view, task_view}
use Rattle.keep_jobs.specs.declared.job.Job as the_job_type
use Rattle.keep_jobs.specs.declared.job.Job.TheVariants as the_job
use Rattle.keep_jobs.specs.declared.job.Task as the_task_type
use Rattle.keep_jobs.specs.declared.job.Task.TheVariants as the_task
use Rattle.keep_safety.specs.SafeBackup.{BackupsAreTexts}
use Rattle.keep_safety.specs.SafeLabels.{EditsAreTexts}
use Rattle.keep_planned_books.specs.Jobs.{IsText, TaskIsText}

task_said : EditsAreTexts → (task : the_task_type.Task) → TaskIsText (task_view task)
task_said edits (the_task.Tag edit) = edits edit
task_said edits (the_task.Forget policy) = tt
task_said edits (the_task.Rewrite forget patterns) = tt

pub job_said : BackupsAreTexts → EditsAreTexts → {F : Type 0} → (rule : F → Pick) (job : the_job_type.Job F) → IsText (job_view rule job)
job_said backups edits rule (the_job.Backup facts files) = backups facts files.items
job_said backups edits rule (the_job.Filtered filter task) = task_said edits task
job_said backups edits rule the_job.Repair = tt
job_said backups edits rule the_job.Mark = tt
job_said backups edits rule (the_job.Sweep wait) = tt
