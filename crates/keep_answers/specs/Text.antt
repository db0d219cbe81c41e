-- The texts of whole answers, which are made of lines.
use Rattle.std.specs.Prelude.{ℕ, ◌&&◌, Bool, true, false, List, ◌++◌, [], ◌∷◌, length, codes, is_some, Option, None, Some, Result, Ok, Err}
use Rattle.std.specs.FinMap as map
use Rattle.std.specs.List.{flat_map}
use Rattle.keep_names.specs.declared.file_name.FileName.{FileName}
use Rattle.keep_names.specs.declared.file_name.Kind.{Kind}
use Rattle.keep_names.specs.declared.file_name.Kind.TheVariants.{Pack, Index, Snapshot}
use Rattle.keep_repo.specs.Repository.{Repository}
use Rattle.keep_journal.specs.History.{notices_of}
use Rattle.keep_journal.specs.Journal.{Journal}
use Rattle.keep_journal.specs.declared.event.Notice.{Notice}
use Rattle.keep_ledger.specs.Refusal.{refusal_text}
use Rattle.keep_ledger.specs.declared.reply.Refusal.{Refusal}
use Rattle.keep_ledger.specs.declared.reply.Refusal.TheVariants.{Memory}
use Rattle.keep_journal.specs.declared.request.Told.{Told}
use Rattle.keep_hooks.specs.Guards.{Tally}
use Rattle.keep_plan.specs.Refusal.{plan_text}
use Rattle.keep_plan.specs.declared.plan_error.PlanError.{PlanError}
use Rattle.keep_read.specs.Refusals.{restore_text}
use Rattle.keep_read.specs.Restored.{RestoredData}
use Rattle.keep_read.specs.declared.finding.Finding.{Finding}
use Rattle.keep_read.specs.declared.restore_error.RestoreError.{RestoreError}
use Rattle.keep_lines.specs.Word.{hex_text}
use Rattle.keep_replies.specs.Reply.{bad_line_text, committed_text, no_text, taken_text}
use Rattle.keep_replies.specs.Telling.{armed_text, counts_text, event_text, file_text, found_count, found_text, noted_text, restored_counts, restored_text, same_text, total_text}
use Rattle.keep_replies.specs.declared.reply_lines.Sizes.{Sizes}
use Rattle.keep_answers.specs.Known.{line}
use Rattle.keep_answers.specs.Files.{bytes_in}
use Rattle.keep_answers.specs.declared.arming.Unarmed.{Unarmed}
use Rattle.keep_answers.specs.declared.arming.Unarmed.TheVariants as unarmed
use Rattle.keep_answers.specs.declared.arming.Unarmed.TheVariants.{DoubleName}

-- what a change that is committed is told, by how much it writes
abbrev pub commit_text : Sizes → Told → List ℕ
commit_text sizes told = committed_text (record { told = told; sizes = sizes })

-- the answer where a request to the book is refused, and where nothing is planned
abbrev pub refused_answer : Refusal → List ℕ
refused_answer refusal = line (no_text (refusal_text refusal))

abbrev pub unplanned_answer : PlanError → List ℕ
unplanned_answer refusal = line (no_text (plan_text refusal))

-- the answer where memory runs out
abbrev pub no_memory_answer : List ℕ
no_memory_answer = refused_answer Memory

-- the answer by a book's reply
abbrev pub reply_answer : (Told → List ℕ) → Result Told Refusal → List ℕ
reply_answer accepted (Ok told) = line (accepted told)
reply_answer accepted (Err refusal) = refused_answer refusal

-- the line of the numbers that were taken back, where there are any
abbrev pub numbers_answer : List ℕ → List ℕ
numbers_answer [] = []
numbers_answer (n ∷ ns) = line (taken_text (n ∷ ns))

-- the line of the refusal that stopped it, where one did
abbrev pub stop_answer : Option Refusal → List ℕ
stop_answer None = []
stop_answer (Some refusal) = refused_answer refusal

-- the answer to `cascade`: the first of these lines, or the second, or both
abbrev pub taken_answer : List ℕ → Option Refusal → List ℕ
taken_answer numbers stopped = numbers_answer numbers ++ stop_answer stopped

-- the answer to a job that was to be planned and committed
abbrev pub outcome_answer : Result (Result Told Refusal × Sizes) PlanError → List ℕ
outcome_answer (Ok made) = reply_answer (commit_text made.1) made.0
outcome_answer (Err refusal) = unplanned_answer refusal

-- the answer to `count`
abbrev pub count_answer : Repository → List ℕ
count_answer repository = line (counts_text (map.len repository.files) (map.len repository.marks))

-- whether files of the kind are packs
abbrev pub is_pack : Kind → Bool
is_pack Pack = true
is_pack Index = false
is_pack Snapshot = false

-- whether the file is a marked pack
abbrev pub is_marked : Repository → FileName → Bool
is_marked repository name = is_pack name.kind && is_some (map.get repository.marks name.id)

-- the line of `list` for a file
abbrev pub file_line : Repository → FileName → List ℕ
file_line repository name = line (file_text name (length (bytes_in repository name)) (is_marked repository name))

-- the answer to `list`: a line for each file, in the order of names, and then the counts
abbrev pub list_answer : Repository → List ℕ
list_answer repository = flat_map (file_line repository) (map.keys repository.files) ++ count_answer repository

-- the answers to `note` and to `same`
abbrev pub note_answer : List ℕ → List ℕ
note_answer name = line (noted_text name)

abbrev pub same_answer : List ℕ → Bool → List ℕ
same_answer name same = line (same_text name same)

-- the answer to `history`: a line for each event
abbrev pub event_line : Notice → List ℕ
event_line notice = line (event_text notice.at notice.what notice.change)

abbrev pub history_answer : Journal → List ℕ
history_answer j = flat_map event_line (notices_of j)

-- what a restore gives: a line for each file, by path, and then the counts
abbrev pub restored_line : List ℕ × List ℕ → List ℕ
restored_line file = line (restored_text file.0 (hex_text file.1))

abbrev pub restored_last : ℕ → ℕ → List ℕ
restored_last files skipped = line (restored_counts files skipped)

abbrev pub restored_answer : RestoredData → List ℕ
restored_answer restored =
    flat_map restored_line (map.entries restored.files) ++ restored_last (map.len restored.files) restored.skipped

-- the answer to `restore`
abbrev pub restore_answer : Result RestoredData RestoreError → List ℕ
restore_answer (Ok restored) = restored_answer restored
restore_answer (Err refusal) = line (no_text (restore_text refusal))

-- what an audit finds: a line for each finding, and then their number
abbrev pub finding_line : Finding → List ℕ
finding_line finding = line (found_text finding)

abbrev pub audit_last : ℕ → List ℕ
audit_last count = line (found_count count)

abbrev pub found_answer : List Finding → List ℕ
found_answer findings = flat_map finding_line findings ++ audit_last (length findings)

-- the answer to `audit`
abbrev pub audit_answer : {E : Type 0} → Result (List Finding) E → List ℕ
audit_answer (Ok findings) = found_answer findings
audit_answer (Err no_memory) = no_memory_answer

-- what is written for a line that isn't of the language
abbrev pub bad_line_answer : ℕ → List ℕ
bad_line_answer number = line (bad_line_text number)

-- the answers to `arm`: it is armed, or its name is, or memory runs out
abbrev pub armed_answer : List ℕ → List ℕ
armed_answer name = line (armed_text name)

abbrev pub double_name_answer : List ℕ
double_name_answer = line (no_text (codes "DoubleName"))

abbrev pub arming_answer : List ℕ → Result (Unit {0}) Unarmed → List ℕ
arming_answer name (Ok _) = armed_answer name
arming_answer name (Err DoubleName) = double_name_answer
arming_answer name (Err unarmed.Memory) = no_memory_answer

-- the answer to `totals`: a line for each watch, in the order in which they were armed
abbrev pub total_line : Tally → List ℕ
total_line watch = line (total_text watch.name watch.total)

abbrev pub totals_answer : List Tally → List ℕ
totals_answer watches = flat_map total_line watches
