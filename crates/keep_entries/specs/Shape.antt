-- What is read of an entry: its bytes are the text of a value without spaces, and each object has no other members.
use Rattle.std.specs.Prelude.{ℕ, suc, ℤ, pos, ◌==◌, Bool, false, List, codes, Option, None, Some, option_and_then, option_map, if◌then◌else◌}
use Rattle.std.specs.List.{after_first, before_first, list_all}
use Rattle.std.specs.Option.{option_map_or}
use Rattle.std.specs.Result.{result_ok}
use Rattle.std.specs.Str.{bytes_eq}
use Rattle.hex.specs.Hex.{decode_of}
use Rattle.serde_json.specs.Data.{Data, Members, no_members, member}
use Rattle.serde_json.specs.Find.{as_bool, as_i64, as_number, as_object, as_str}
use Rattle.serde_json.specs.Written.{compact_text}
use Rattle.keep_names.specs.FileName.{named}
use Rattle.keep_names.specs.Id.{is_lower_hex_digit}
use Rattle.keep_names.specs.declared.file_name.FileName.{FileName}
use Rattle.keep_names.specs.declared.file_name.Kind.{Kind}
use Rattle.keep_names.specs.declared.file_name.Kind.TheVariants.{Pack, Index, Snapshot}
use Rattle.keep_names.specs.declared.id.Id.{Id}
use Rattle.keep_docs.specs.Doc.{doc_of}
use Rattle.keep_docs.specs.Fields.{◌>>=◌, as_id, as_list, as_whole, field, id_of_text}
use Rattle.keep_docs.specs.Lists.{each}
use Rattle.keep_docs.specs.declared.doc.DocError.{DocError}
use Rattle.keep_docs.specs.declared.doc.DocError.TheVariants as doc
use Rattle.keep_change.specs.NamedBytes.{NamedBytes}
use Rattle.keep_change.specs.declared.change.Change.{Change}
use Rattle.keep_change.specs.declared.change.PackMark.{PackMark}
use Rattle.keep_journal.specs.declared.event.Event.{Event}
use Rattle.keep_journal.specs.declared.event.EventKind.{EventKind}
use Rattle.keep_journal.specs.declared.event.EventKind.TheVariants.{Commit, Undo, Redo, Empty}
use Rattle.keep_entries.specs.declared.form.Form.{Form}
use Rattle.keep_entries.specs.declared.form.Form.TheVariants.{Packs, Moments}
use Rattle.keep_entries.specs.declared.misread.Misread.{Misread}
use Rattle.keep_entries.specs.declared.misread.Misread.TheVariants.{OtherShape, Memory}

-- why a document wasn't read
abbrev pub misread_of : DocError → Misread
misread_of doc.NotJson = OtherShape
misread_of doc.BadNumber = OtherShape
misread_of doc.Memory = Memory

-- ---- how large objects are

-- how many members there are
abbrev pub count_of : Members → ℕ
count_of no_members = 0
count_of (member k d ms) = suc (count_of ms)

-- whether a value is an object of so many members
abbrev pub has_members : ℕ → Data → Bool
has_members count d = option_map_or (λ ms. count_of ms == count) (as_object d) false

-- what an object of so many members is read as
abbrev pub sized : {A : Type 0} → ℕ → (Data → Option A) → Data → Option A
sized count read d = if has_members count d then read d else None

-- ---- files and marks

-- the form of a number
abbrev pub form_numbered : ℕ → Option Form
form_numbered n = if n == 1 then Some Packs else if n == 2 then Some Moments else None

-- the kind that a word names
abbrev pub kind_named : List ℕ → Option Kind
kind_named word =
    if bytes_eq word (codes "pack") then Some Pack
    else if bytes_eq word (codes "index") then Some Index
    else if bytes_eq word (codes "snapshot") then Some Snapshot
    else None

-- the name of the kind before the first slash, and of the id behind it
abbrev pub name_of_text : List ℕ → Option FileName
name_of_text text = do
  kind ← kind_named (before_first (λ b. b == 47) text)
  id ← id_of_text (after_first (λ b. b == 47) text)
  Some (named kind id)

abbrev pub as_name : Data → Option FileName
as_name d = option_and_then name_of_text (as_str d)

-- the bytes whose lower case hex the text is
abbrev pub bytes_of_text : List ℕ → Option (List ℕ)
bytes_of_text text = if list_all is_lower_hex_digit text then result_ok (decode_of text) else None

abbrev pub as_bytes : Data → Option (List ℕ)
as_bytes d = option_and_then bytes_of_text (as_str d)

-- a file with its bytes, at their keys
abbrev pub stored_in : Data → Option NamedBytes
stored_in d = do
  name ← field (codes "file") as_name d
  bytes ← field (codes "bytes") as_bytes d
  Some (record { name = name; bytes = bytes })

-- a file with its bytes, of an object that has nothing else
abbrev pub file_in : Data → Option NamedBytes
file_in = sized 2 stored_in

-- a moment: a whole number that fits 64 bits with a sign
abbrev pub as_moment : Data → Option ℤ
as_moment d = option_and_then as_i64 (as_number d)

-- the mark of this pack and moment
abbrev pub mark_at : Id → ℤ → PackMark
mark_at pack moment = record { pack = pack; mark = record { moment = moment } }

-- a mark with its moment, at their keys
abbrev pub moment_in : Data → Option PackMark
moment_in d = do
  pack ← field (codes "id") as_id d
  moment ← field (codes "moment") as_moment d
  Some (mark_at pack moment)

-- a mark, which has moment 0 where the form has none
abbrev pub mark_in : Form → Data → Option PackMark
mark_in Packs d = do
  pack ← as_id d
  Some (mark_at pack (pos 0))
mark_in Moments d = sized 2 moment_in d

-- ---- events

-- the list of a key, each of its values read
abbrev pub list_of : {A : Type 0} → (Data → Option A) → List ℕ → Data → Option (List A)
list_of read key d = do
  values ← field key as_list d
  each read values

-- a change
abbrev pub change_in : Form → Data → Option Change
change_in form d = do
  adds ← list_of file_in (codes "adds") d
  drops ← list_of file_in (codes "drops") d
  sets ← list_of (mark_in form) (codes "sets") d
  clears ← list_of (mark_in form) (codes "clears") d
  present ← list_of as_name (codes "present") d
  absent ← list_of as_name (codes "absent") d
  marked ← list_of as_id (codes "marked") d
  unmarked ← list_of as_id (codes "unmarked") d
  strict ← field (codes "strict") as_bool d
  Some (record {
    adds = adds;
    drops = drops;
    sets = sets;
    clears = clears;
    present = present;
    absent = absent;
    marked = marked;
    unmarked = unmarked;
    strict = strict;
  })

-- how many members an entry has that says this word
abbrev pub members_of : List ℕ → Option ℕ
members_of word =
    if bytes_eq word (codes "commit") then Some 12
    else if bytes_eq word (codes "undo") then Some 3
    else if bytes_eq word (codes "redo") then Some 3
    else if bytes_eq word (codes "empty") then Some 4
    else None

-- what an event did, as a word names it
abbrev pub deed_named : Form → Data → List ℕ → Option EventKind
deed_named form d word =
    if bytes_eq word (codes "commit") then option_map Commit (change_in form d)
    else if bytes_eq word (codes "undo") then Some Undo
    else if bytes_eq word (codes "redo") then Some Redo
    else if bytes_eq word (codes "empty") then option_map Empty (list_of (mark_in form) (codes "marks") d)
    else None

-- what an event of this form did
abbrev pub deed_in : Form → Data → Option EventKind
deed_in form d = do
  word ← field (codes "event") as_str d
  count ← members_of word
  if has_members count d then deed_named form d word else None

-- an event of this form
abbrev pub event_in : Form → Data → Option Event
event_in form d = do
  n ← field (codes "number") as_whole d
  kind ← deed_in form d
  Some (record { number = n; kind = kind })

-- the form of an entry
abbrev pub form_in : Data → Option Form
form_in d = do
  n ← field (codes "form") as_whole d
  form_numbered n

-- a form, and an event of it
abbrev pub said_in : Data → Option (Form × Event)
said_in d = do
  form ← form_in d
  event ← event_in form d
  Some (form, event)

-- the value whose text without spaces the bytes are
abbrev pub compact_doc : List ℕ → Option Data
compact_doc bytes = do
  d ← result_ok (doc_of bytes)
  if bytes_eq bytes (compact_text d) then Some d else None

-- what the bytes of an entry are read as
abbrev pub read_of : List ℕ → Option (Form × Event)
read_of bytes = option_and_then said_in (compact_doc bytes)
