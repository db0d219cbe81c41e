-- What the lines of the language say: each command has one text.
use Rattle.std.specs.Prelude.{◌≡◌, ℕ, List, ◌++◌, codes}
use Rattle.std.specs.Fmt.{decimal}
use Rattle.keep_lines.specs.JobLine.{IsJob, job_text}
use Rattle.keep_names.specs.Parses.{NonePrints}
use Rattle.keep_lines.specs.Question.{IsQuestion, question_text}
use Rattle.keep_lines.specs.RawFile.{IsRawFile, raw_file_text}
use Rattle.keep_lines.specs.Revision.{IsRevision, revision_text}
use Rattle.keep_names.specs.Number.{IsNumber}
use Rattle.keep_lines.specs.Word.{IsName}
use Rattle.keep_lines.specs.declared.command.Command.{Command}
use Rattle.keep_lines.specs.declared.command.Command.TheVariants.{Arm, Cascade, Job, Note, Question, RawFile, Revision}

-- `cascade N`
abbrev pub cascade_text : ℕ → List ℕ
cascade_text n = codes "cascade " ++ decimal n

-- `note NAME`
abbrev pub note_text : List ℕ → List ℕ
note_text name = codes "note " ++ name

-- `arm NAME`
abbrev pub arm_text : List ℕ → List ℕ
arm_text name = codes "arm " ++ name

-- the line that asks for a command: its words, with single spaces between
abbrev pub command_text : Command → List ℕ
command_text (Job job) = job_text job
command_text (RawFile file) = raw_file_text file
command_text (Revision revision) = revision_text revision
command_text (Cascade n) = cascade_text n
command_text (Question question) = question_text question
command_text (Note name) = note_text name.now
command_text (Arm name) = arm_text name.now

-- a command whose numbers, bytes and names are in range
abbrev pub IsCommand : Command → Type 0
IsCommand (Job job) = IsJob job
IsCommand (RawFile file) = IsRawFile file
IsCommand (Revision revision) = IsRevision revision
IsCommand (Cascade n) = IsNumber n
IsCommand (Question question) = IsQuestion question
IsCommand (Note name) = IsName name.now
IsCommand (Arm name) = IsName name.now

-- the line asks for this command
abbrev pub Asks : List ℕ → Command → Type 0
Asks line command = IsCommand command × (command_text command ≡ line)

-- the line asks for no command
abbrev pub IsNoCommand : List ℕ → Type 0
IsNoCommand line = NonePrints IsCommand command_text line
