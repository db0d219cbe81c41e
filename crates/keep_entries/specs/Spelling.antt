-- The texts of events in both forms: documents without spaces, the keys of each object in byte order.
use Rattle.std.specs.Prelude.{ℕ, List, ◌++◌, codes, map}
use Rattle.hex.specs.Hex.{encode_lower}
use Rattle.serde_json.specs.Data.{Data, boolean, number, string, object, unsigned, no_members, member}
use Rattle.serde_json.specs.Find.{of_integer}
use Rattle.serde_json.specs.Written.{compact_text}
use Rattle.keep_names.specs.FileName.{kind_text}
use Rattle.keep_names.specs.Id.{id_text}
use Rattle.keep_names.specs.declared.file_name.FileName.{FileName}
use Rattle.keep_docs.specs.Fields.{id_data}
use Rattle.keep_docs.specs.Lists.{ids_data, list_data}
use Rattle.keep_change.specs.NamedBytes.{NamedBytes}
use Rattle.keep_change.specs.declared.change.Change.{Change}
use Rattle.keep_change.specs.declared.change.PackMark.{PackMark}
use Rattle.keep_journal.specs.declared.event.Event.{Event}
use Rattle.keep_journal.specs.declared.event.EventKind.{EventKind}
use Rattle.keep_journal.specs.declared.event.EventKind.TheVariants.{Commit, Undo, Redo, Empty}
use Rattle.keep_entries.specs.declared.form.Form.{Form}
use Rattle.keep_entries.specs.declared.form.Form.TheVariants.{Packs, Moments}

-- the number of a form
abbrev pub form_number : Form → ℕ
form_number Packs = 1
form_number Moments = 2

-- a file's name: the word for its kind, a slash, and the digits of its id
abbrev pub name_text : FileName → List ℕ
name_text name = kind_text name.kind ++ (codes "/" ++ id_text name.id)

-- a file's name, as a value
abbrev pub name_data : FileName → Data
name_data name = string (name_text name)

-- a file, as a value: its bytes in hex, and its name
abbrev pub file_data : NamedBytes → Data
file_data file =
    object
    (member (codes "bytes") (string (encode_lower file.bytes))
    (member (codes "file") (name_data file.name) no_members))

-- a mark, as a value: its pack alone, or its pack and its moment
abbrev pub mark_data : Form → PackMark → Data
mark_data Packs m = id_data m.pack
mark_data Moments m =
    object
    (member (codes "id") (id_data m.pack)
    (member (codes "moment") (number (of_integer m.mark.moment)) no_members))

-- lists of names, of files and of marks, as values
abbrev pub names_data : List FileName → Data
names_data names = list_data (map name_data names)

abbrev pub files_data : List NamedBytes → Data
files_data files = list_data (map file_data files)

abbrev pub marks_data : Form → List PackMark → Data
marks_data form marks = list_data (map (mark_data form) marks)

-- a commit, as a value: the eight lists of its change, and whether it is strict
abbrev pub commit_data : Form → ℕ → Change → Data
commit_data form n c =
    object
    (member (codes "absent") (names_data c.absent)
    (member (codes "adds") (files_data c.adds)
    (member (codes "clears") (marks_data form c.clears)
    (member (codes "drops") (files_data c.drops)
    (member (codes "event") (string (codes "commit"))
    (member (codes "form") (number (unsigned (form_number form)))
    (member (codes "marked") (ids_data c.marked)
    (member (codes "number") (number (unsigned n))
    (member (codes "present") (names_data c.present)
    (member (codes "sets") (marks_data form c.sets)
    (member (codes "strict") (boolean c.strict)
    (member (codes "unmarked") (ids_data c.unmarked) no_members))))))))))))

-- an undo or a redo, as a value
abbrev pub turn_data : Form → List ℕ → ℕ → Data
turn_data form word n =
    object
    (member (codes "event") (string word)
    (member (codes "form") (number (unsigned (form_number form)))
    (member (codes "number") (number (unsigned n)) no_members)))

-- an emptying, as a value: the marks of the new opening
abbrev pub empty_data : Form → ℕ → List PackMark → Data
empty_data form n marks =
    object
    (member (codes "event") (string (codes "empty"))
    (member (codes "form") (number (unsigned (form_number form)))
    (member (codes "marks") (marks_data form marks)
    (member (codes "number") (number (unsigned n)) no_members))))

-- an event of this kind, as a value
abbrev pub kind_data : Form → ℕ → EventKind → Data
kind_data form n (Commit c) = commit_data form n c
kind_data form n Undo = turn_data form (codes "undo") n
kind_data form n Redo = turn_data form (codes "redo") n
kind_data form n (Empty marks) = empty_data form n marks

-- an event, as a value
abbrev pub event_data : Form → Event → Data
event_data form event = kind_data form event.number event.kind

-- the text of an event in this form
abbrev pub text_in : Form → Event → List ℕ
text_in form event = compact_text (event_data form event)

-- the text in which an event is written
abbrev pub entry_text : Event → List ℕ
entry_text event = text_in Moments event
