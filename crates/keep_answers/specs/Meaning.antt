-- What commands mean: values stand in the places of their names.
use Rattle.std.specs.Prelude.{◌≡◌, ℕ, List, option_map, ok_or, Result, Ok, Err}
use Rattle.keep_jobs.specs.Job.{JobData}
use Rattle.keep_jobs.specs.Kits.{NamedRule}
use Rattle.keep_jobs.specs.Resolving.{job_of}
use Rattle.keep_lines.specs.declared.command.Command.{Command}
use Rattle.keep_lines.specs.declared.command.Command.TheVariants as command
use Rattle.keep_lines.specs.declared.job_line.JobLine.{JobLine}
use Rattle.keep_lines.specs.declared.mistake.Mistake.{Mistake}
use Rattle.keep_lines.specs.declared.mistake.Mistake.TheVariants.{NoFile, NoFilter, NoHook, NoNote}
use Rattle.keep_lines.specs.declared.question.Question.{Question}
use Rattle.keep_lines.specs.declared.question.Question.TheVariants as question
use Rattle.keep_lines.specs.declared.raw_file.RawFile.TheVariants as raw_file
use Rattle.keep_lines.specs.declared.revision.Revision.{Revision}
use Rattle.keep_names.specs.declared.file_name.FileName.{FileName}
use Rattle.keep_names.specs.declared.file_name.Kind.{Kind}
use Rattle.keep_names.specs.declared.file_name.Kind.TheVariants.{Snapshot}
use Rattle.keep_names.specs.declared.id.Id.{Id}
use Rattle.keep_repo.specs.Repository.{Repository}
use Rattle.keep_answers.specs.Arming.{hook_place}
use Rattle.keep_answers.specs.Files.{file_meant}
use Rattle.keep_answers.specs.State.{State, kit_of}
use Rattle.keep_answers.specs.declared.hook_place.HookPlace.{HookPlace}
use Rattle.keep_answers.specs.declared.meant.Meant as the_meant
use Rattle.keep_answers.specs.declared.meant.Meant.TheVariants as meant
use Rattle.keep_answers.specs.declared.meant.Topic.{Topic}
use Rattle.keep_answers.specs.declared.meant.Topic.TheVariants as topic

-- what a command means: a job, a file to add or to drop by itself, a revision, a change to take back with all that
-- leans on it, something to tell, the noted repository of a name to compare, a snapshot to restore, a note to take
-- under a name, and where the hook of a name is
pub data MeantData : Type 0 where
  Job : JobData → MeantData
  Add : Kind → List ℕ → MeantData
  Drop : FileName → MeantData
  Revise : Revision → MeantData
  Cascade : ℕ → MeantData
  Tell : Topic → MeantData
  Compare : List ℕ → Repository → MeantData
  Restore : Id → MeantData
  Note : List ℕ → MeantData
  Arm : List ℕ → HookPlace → MeantData

-- the job of a line, or why the line is bad: no filter has the name that stands in it
abbrev pub job_meant : List NamedRule → JobLine → Result MeantData Mistake
job_meant filters line = ok_or (option_map Job (job_of filters line)) NoFilter

-- what a line means as data; the filter of a job is that of these which has the name
abbrev pub meant_view : List NamedRule → the_meant.Meant → Result MeantData Mistake
meant_view filters (meant.Job line) = job_meant filters line
meant_view filters (meant.Add kind bytes) = Ok (Add kind bytes.items)
meant_view filters (meant.Drop name) = Ok (Drop name)
meant_view filters (meant.Revision revision) = Ok (Revise revision)
meant_view filters (meant.Cascade n) = Ok (Cascade n)
meant_view filters (meant.Tell what) = Ok (Tell what)
meant_view filters (meant.Compare name noted) = Ok (Compare name.now noted.now)
meant_view filters (meant.Restore snapshot) = Ok (Restore snapshot)
meant_view filters (meant.Note name) = Ok (Note name.now)
meant_view filters (meant.Arm name place) = Ok (Arm name.now place)

-- what a question means: a note is the last one of its name, and `@N` the snapshot that the change added
abbrev pub question_meant : State → Question → Result MeantData Mistake
question_meant state question.List = Ok (Tell topic.List)
question_meant state question.Count = Ok (Tell topic.Count)
question_meant state question.History = Ok (Tell topic.History)
question_meant state question.Audit = Ok (Tell topic.Audit)
question_meant state question.Totals = Ok (Tell topic.Totals)
question_meant state (question.Same name) = ok_or (option_map (Compare name.now) (state.notes name.now)) NoNote
question_meant state (question.Restore target) =
    ok_or (option_map (λ (name : FileName). Restore name.id) (file_meant state.book.events Snapshot target)) NoFile

-- what a command means, or why its line is bad: no filter has the name that stands in it, change N added no such file,
-- no note was taken under the name, or no veto and no watch has it
abbrev pub meant_by : State → Command → Result MeantData Mistake
meant_by state (command.Job line) = job_meant state.filters line
meant_by state (command.RawFile (raw_file.Add kind bytes)) = Ok (Add kind bytes.items)
meant_by state (command.RawFile (raw_file.Drop kind target)) =
    ok_or (option_map Drop (file_meant state.book.events kind target)) NoFile
meant_by state (command.Revision revision) = Ok (Revise revision)
meant_by state (command.Cascade n) = Ok (Cascade n)
meant_by state (command.Question asked) = question_meant state asked
meant_by state (command.Note name) = Ok (Note name.now)
meant_by state (command.Arm name) =
    ok_or (option_map (Arm name.now) (hook_place state.armed (kit_of state) name.now)) NoHook

-- what comes of a command's names: just what it means, or just why its line is bad
abbrev pub Resolves : List NamedRule → Result MeantData Mistake → Result the_meant.Meant Mistake → Type 0
Resolves filters due (Ok found) = due ≡ meant_view filters found
Resolves filters due (Err why) = due ≡ Err why
