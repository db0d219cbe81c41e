-- What commands say, as data: the first word of the line, and the values behind it.
use Rattle.std.specs.Prelude.{◌≡◌, ℕ, Bool, List, map, string_bytes, Option, String}
use Rattle.std.specs.Global.{Global, Vec}
use Rattle.keep_names.specs.declared.file_name.Kind.{Kind}
use Rattle.keep_lines.specs.Command.{Asks}
use Rattle.keep_lines.specs.declared.command.Command.{Command}
use Rattle.keep_lines.specs.declared.command.Command.TheVariants as the_command
use Rattle.keep_lines.specs.declared.forget_line.Rule.{Rule}
use Rattle.keep_lines.specs.declared.forget_line.Rule.TheVariants as rule
use Rattle.keep_lines.specs.declared.forget_line.Span.{Span}
use Rattle.keep_lines.specs.declared.forget_line.Span.TheVariants as span
use Rattle.keep_lines.specs.declared.job_line.JobLine.{JobLine}
use Rattle.keep_lines.specs.declared.job_line.JobLine.TheVariants as job
use Rattle.keep_lines.specs.declared.question.Question.{Question}
use Rattle.keep_lines.specs.declared.question.Question.TheVariants as question
use Rattle.keep_lines.specs.declared.raw_file.RawFile.{RawFile}
use Rattle.keep_lines.specs.declared.raw_file.RawFile.TheVariants as raw_file
use Rattle.keep_lines.specs.declared.revision.Revision.{Revision}
use Rattle.keep_lines.specs.declared.revision.Revision.TheVariants as revision
use Rattle.keep_lines.specs.declared.tag_line.TagWord.{TagWord}
use Rattle.keep_lines.specs.declared.tag_line.TagWord.TheVariants as tag_word
use Rattle.keep_lines.specs.declared.word.MeantFile.{MeantFile}

-- the first words of lines
pub data Verb : Type 0 where
  Undo : Verb
  Redo : Verb
  Empty : Verb
  Cascade : Verb
  ListFiles : Verb
  Count : Verb
  History : Verb
  Same : Verb
  Restore : Verb
  Audit : Verb
  Totals : Verb
  Note : Verb
  Arm : Verb
  Add : Verb
  Drop : Verb
  Backup : Verb
  Tag : Verb
  Forget : Verb
  Rewrite : Verb
  Repair : Verb
  Mark : Verb
  Sweep : Verb

-- what is done with a tag
pub data TagData : Type 0 where
  Adds : List ℕ → TagData
  Removes : List ℕ → TagData
  Sets : List ℕ → TagData

-- whom a rule keeps: so many of these, or those with the tag
pub data RuleData : Type 0 where
  Counts : Span → ℕ → RuleData
  Keeps : List ℕ → RuleData

-- what stands behind each first word
abbrev pub Values : Verb → Type 0
Values Undo = ℕ
Values Redo = ℕ
Values Empty = ℕ
Values Cascade = ℕ
Values ListFiles = Unit {0}
Values Count = Unit {0}
Values History = Unit {0}
Values Same = List ℕ
Values Restore = MeantFile
Values Audit = Unit {0}
Values Totals = Unit {0}
Values Note = List ℕ
Values Arm = List ℕ
Values Add = Kind × List ℕ
Values Drop = Kind × MeantFile
Values Backup = List ℕ × List ℕ × List (List ℕ × List ℕ)
Values Tag = List ℕ × List TagData
Values Forget = List ℕ × List RuleData
Values Rewrite = List ℕ × Bool × List (List ℕ)
Values Repair = Unit {0}
Values Mark = Unit {0}
Values Sweep = Option ℕ

-- what a command says
pub record Said : Type 0 where
  pub verb : Verb
  pub values : Values verb

-- a first word with these values
abbrev pub with : (verb : Verb) → Values verb → Said
with verb values = record { verb = verb; values = values }

abbrev pub file_said : String Global × Vec ℕ → List ℕ × List ℕ
file_said file = (string_bytes file.0, file.1.items)

abbrev pub tag_said : TagWord → TagData
tag_said (tag_word.Add tag) = Adds (string_bytes tag)
tag_said (tag_word.Remove tag) = Removes (string_bytes tag)
tag_said (tag_word.Set tag) = Sets (string_bytes tag)

abbrev pub rule_said : Rule → RuleData
rule_said (rule.Last count) = Counts span.Last count.number
rule_said (rule.Daily count) = Counts span.Day count.number
rule_said (rule.Weekly count) = Counts span.Week count.number
rule_said (rule.Monthly count) = Counts span.Month count.number
rule_said (rule.Yearly count) = Counts span.Year count.number
rule_said (rule.Tag tag) = Keeps (string_bytes tag)

abbrev pub job_said : JobLine → Said
job_said (job.Backup backup) =
    with Backup (string_bytes backup.host, string_bytes backup.time, map file_said backup.files.items)
job_said (job.Tag tag) = with Tag (string_bytes tag.filter, map tag_said tag.words.items)
job_said (job.Forget forget) = with Forget (string_bytes forget.filter, map rule_said forget.rules.items)
job_said (job.Rewrite rewrite) =
    with Rewrite (string_bytes rewrite.filter, rewrite.forget, map string_bytes rewrite.patterns.items)
job_said job.Repair = with Repair tt
job_said job.Mark = with Mark tt
job_said (job.Sweep wait) = with Sweep wait

abbrev pub raw_file_said : RawFile → Said
raw_file_said (raw_file.Add kind bytes) = with Add (kind, bytes.items)
raw_file_said (raw_file.Drop kind target) = with Drop (kind, target)

abbrev pub revision_said : Revision → Said
revision_said (revision.Undo n) = with Undo n
revision_said (revision.Redo n) = with Redo n
revision_said (revision.Empty n) = with Empty n

abbrev pub question_said : Question → Said
question_said question.List = with ListFiles tt
question_said question.Count = with Count tt
question_said question.History = with History tt
question_said (question.Same name) = with Same name.now
question_said (question.Restore target) = with Restore target
question_said question.Audit = with Audit tt
question_said question.Totals = with Totals tt

-- what a command says, without where its texts lie in memory
abbrev pub command_said : Command → Said
command_said (the_command.Job asked) = job_said asked
command_said (the_command.RawFile file) = raw_file_said file
command_said (the_command.Revision asked) = revision_said asked
command_said (the_command.Cascade n) = with Cascade n
command_said (the_command.Question asked) = question_said asked
command_said (the_command.Note name) = with Note name.now
command_said (the_command.Arm name) = with Arm name.now

-- all commands for which a line asks say the same
abbrev pub HasOneCommand : List ℕ → Type 0
HasOneCommand line = (a b : Command) → Asks line a → Asks line b → command_said a ≡ command_said b
