-- What operators are asked for.
use Rattle.std.specs.Prelude.{◌≡◌, ℕ, ◌<◌, List, length}
use Rattle.std.specs.List.{slice_index_or}
use Rattle.keep_crew.specs.declared.work.Work.{Work}
use Rattle.keep_crew.specs.declared.work.Work.TheVariants.{Plan, Undo, Redo, Empty}
use Rattle.keep_plan.specs.declared.pick.Pick.TheVariants.{Any}
use Rattle.keep_jobs.specs.Job.{JobData, SettingsData, job_view, settings_view}
use Rattle.keep_jobs.specs.declared.job.Job.{Job}
use Rattle.keep_operators.specs.declared.each_snapshot.EachSnapshot.{EachSnapshot}
use Rattle.keep_operators.specs.declared.planner.Planner.{Planner}

-- what a job says that goes by the filter of each snapshot
abbrev pub job_of : Job EachSnapshot → JobData
job_of job = job_view (λ each. Any) job

-- the operator is asked to plan this job by these settings, and to commit what it planned
abbrev pub IsAsked : SettingsData → JobData → Work (Planner EachSnapshot) → Type 0
IsAsked settings job (Plan planner) = (settings_view planner.settings ≡ settings) × (job_of planner.job ≡ job)
IsAsked settings job (Undo n) = ⊥
IsAsked settings job (Redo n) = ⊥
IsAsked settings job (Empty n) = ⊥

-- each is asked for the job of its place
abbrev pub AreAsked : SettingsData → (ℕ → JobData) → List (Work (Planner EachSnapshot)) → Type 0
AreAsked settings job works = (i : ℕ) (d : Work (Planner EachSnapshot)) → i < length works → IsAsked settings (job i) (slice_index_or works i d)
