-- The texts of the lines by which something is told, each without its end.
use Rattle.std.specs.Prelude.{ℕ, Bool, if◌then◌else◌, List, [], ◌++◌, codes, Option, Some, None}
use Rattle.std.specs.Fmt.{decimal}
use Rattle.keep_names.specs.FileName.{file_name_text}
use Rattle.keep_names.specs.Id.{id_text}
use Rattle.keep_names.specs.declared.file_name.FileName.{FileName}
use Rattle.keep_change.specs.declared.outline.What.{What}
use Rattle.keep_change.specs.declared.outline.What.TheVariants as what
use Rattle.keep_read.specs.Refusals.{finding_number}
use Rattle.keep_read.specs.declared.finding.Finding.{Finding}
use Rattle.keep_read.specs.declared.finding.Finding.TheVariants.{Broken, Unreadable, WrongBlob, WrongName}

-- how many files and marks there are: `files F marks M`
abbrev pub counts_text : ℕ → ℕ → List ℕ
counts_text files marks = codes "files " ++ (decimal files ++ (codes " marks " ++ decimal marks))

-- a file: its name, its length, and a word behind those where it is marked
abbrev pub file_text : FileName → ℕ → Bool → List ℕ
file_text name length marked =
    file_name_text name ++ (codes " " ++ (decimal length ++ (if marked then codes " marked" else [])))

-- the word for what an event did
abbrev pub what_text : What → List ℕ
what_text what.Commit = codes "commit"
what_text what.Undo = codes "undo"
what_text what.Redo = codes "redo"
what_text what.Empty = codes "empty"

-- an event: its number, what it did, and the number of its change: `K WORD N`
abbrev pub event_text : ℕ → What → ℕ → List ℕ
event_text at what change = decimal at ++ (codes " " ++ (what_text what ++ (codes " " ++ decimal change)))

-- a note that was taken: `noted NAME`
abbrev pub noted_text : List ℕ → List ℕ
noted_text name = codes "noted " ++ name

-- whether the repository is as a note has it: `same NAME yes` or `same NAME no`
abbrev pub same_text : List ℕ → Bool → List ℕ
same_text name same = codes "same " ++ (name ++ (codes " " ++ (if same then codes "yes" else codes "no")))

-- a restored file: `PATH HEX`
abbrev pub restored_text : List ℕ → List ℕ → List ℕ
restored_text path hex = path ++ (codes " " ++ hex)

-- how many files a restore gives, and how many nodes it skipped: `restored F skipped S`
abbrev pub restored_counts : ℕ → ℕ → List ℕ
restored_counts files skipped = codes "restored " ++ (decimal files ++ (codes " skipped " ++ decimal skipped))

-- what was found, and where: `wrong-name KIND ID`, `unreadable KIND ID`, `wrong-blob PACK BLOB` or `broken SNAPSHOT`
abbrev pub finding_text : Finding → List ℕ
finding_text (WrongName name) = codes "wrong-name " ++ file_name_text name
finding_text (Unreadable file) = codes "unreadable " ++ file_name_text file.name
finding_text (WrongBlob pack blob) = codes "wrong-blob " ++ (id_text pack ++ (codes " " ++ id_text blob.id))
finding_text (Broken snapshot why) = codes "broken " ++ id_text snapshot

-- the number of a refusal behind it, where it carries one
abbrev pub number_text : Option ℕ → List ℕ
number_text (Some number) = codes " " ++ decimal number
number_text None = []

-- a finding, with the number of the refusal that it carries
abbrev pub found_text : Finding → List ℕ
found_text finding = finding_text finding ++ number_text (finding_number finding)

-- how many findings there are: `audit F`
abbrev pub found_count : ℕ → List ℕ
found_count count = codes "audit " ++ decimal count

-- a veto or a watch that was armed: `armed NAME`
abbrev pub armed_text : List ℕ → List ℕ
armed_text name = codes "armed " ++ name

-- a watch and its total: `NAME TOTAL`
abbrev pub total_text : List ℕ → ℕ → List ℕ
total_text name total = name ++ (codes " " ++ decimal total)
