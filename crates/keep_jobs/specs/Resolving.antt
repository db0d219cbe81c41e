-- The jobs that lines ask for, where names stand for what a kit has under them.
use Rattle.std.specs.Prelude.{◌≡◌, ℕ, Bool, true, false, not, List, [], ◌∷◌, codes, map, option_map, string_bytes, Option, Some, None, Result, Ok, Err, unwrap_or}
use Rattle.keep_backup.specs.Backup.{FactsData}
use Rattle.keep_backup.specs.Files.{given_view}
use Rattle.keep_plan.specs.declared.pick.Pick.{Pick}
use Rattle.keep_jobs.specs.Job as job
use Rattle.keep_jobs.specs.Job.{JobData, TaskData, job_view}
use Rattle.keep_jobs.specs.Kits.{NamedRule, rule_named}
use Rattle.keep_jobs.specs.declared.job.Job.{Job}
use Rattle.keep_labels.specs.Edits.{is_bad_edit}
use Rattle.keep_lines.specs.Edits.{edit_data}
use Rattle.keep_lines.specs.Policies.{policy_data}
use Rattle.keep_lines.specs.declared.command.LineError.{LineError}
use Rattle.keep_lines.specs.declared.command.LineError.TheVariants.{Bad, Memory}
use Rattle.keep_lines.specs.declared.job_line.JobLine.{JobLine}
use Rattle.keep_lines.specs.declared.job_line.JobLine.TheVariants.{Backup, Forget, Mark, Repair, Rewrite, Sweep, Tag}
use Rattle.keep_lines.specs.declared.mistake.Mistake.TheVariants.{NoFilter}

-- who backs up, and when: this host at this time, the user `keep`, and one path, the root
abbrev pub facts_of : (host time : List ℕ) → FactsData
facts_of host time = record { host = host; user = codes "keep"; paths = codes "/" ∷ []; time = time }

-- the job for what the rule takes, if there is a rule
abbrev pub filtered : Option Pick → TaskData → Option JobData
filtered rule task = option_map (λ found. job.Filtered found task) rule

-- the job that a line asks for, if there is a filter of the name that stands in it: the first one is meant
abbrev pub job_of : List NamedRule → JobLine → Option JobData
job_of filters (Backup backup) =
    Some (job.Backup (facts_of (string_bytes backup.host) (string_bytes backup.time))
    (map given_view backup.files.items))
job_of filters (Tag tag) =
    filtered (rule_named (string_bytes tag.filter) filters) (job.Tag (edit_data tag.words.items))
job_of filters (Forget forget) =
    filtered (rule_named (string_bytes forget.filter) filters) (job.Forget (policy_data forget.rules.items))
job_of filters (Rewrite rewrite) =
    filtered (rule_named (string_bytes rewrite.filter) filters)
    (job.Rewrite rewrite.forget (map string_bytes rewrite.patterns.items))
job_of filters Repair = Some job.Repair
job_of filters Mark = Some job.Mark
job_of filters (Sweep wait) = Some (job.Sweep (unwrap_or wait 0))

-- whether memory is taken for the values of a task: an edit that is bad takes none, nor do texts that the line has
abbrev pub task_takes : TaskData → Bool
task_takes (job.Tag edit) = not (is_bad_edit edit)
task_takes (job.Forget policy) = true
task_takes (job.Rewrite forget patterns) = false

-- and for those of a job
abbrev pub takes_memory : JobData → Bool
takes_memory (job.Backup facts files) = true
takes_memory (job.Filtered rule task) = task_takes task
takes_memory job.Repair = false
takes_memory job.Mark = false
takes_memory (job.Sweep wait) = false

-- what comes of a line's job: just the one that is due; or none is due, since no filter has the name; or memory runs
-- out for the values of the one that is due
abbrev pub Resolves : {F : Type 0} → (F → Pick) → Option JobData → Result (Job F) LineError → Type 0
Resolves rule due (Ok found) = due ≡ Some (job_view rule found)
Resolves rule due (Err (Bad why)) = (due ≡ None) × (why ≡ NoFilter)
Resolves rule due (Err Memory) = (asked : JobData) × (due ≡ Some asked) × (takes_memory asked ≡ true)
