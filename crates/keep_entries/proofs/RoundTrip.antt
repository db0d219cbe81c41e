-- An event is read back from each of its texts: all that the form tells of it.
use Rattle.std.proofs.Common.{◌≡◌, ℕ, ◌^◌, ◌++◌, ℤ, pos, negsuc, List, [], ◌∷◌, map, codes, Option, Some, option_map, option_and_then, Ok, refl, ap, ◌∙◌}
use Rattle.std.proofs.lemmas.Bool.{lt-ltb}
use Rattle.std.proofs.lemmas.List.{map-id}
use Rattle.std.proofs.lemmas.Slice.Eq.{bytes_eq-Decides}
use Rattle.std.specs.List.{AllByRecursion}
use Rattle.serde_json.specs.Data.{Data}
use Rattle.serde_json.specs.Find.{as_i64, of_integer}
use Rattle.serde_json.specs.View.{items_of}
use Rattle.serde_json.specs.Written.{compact_text}
use Rattle.keep_names.specs.FileName.{kind_text, named}
use Rattle.keep_names.specs.Id.{IsDigest, id_text}
use Rattle.keep_names.specs.declared.file_name.FileName.{FileName}
use Rattle.keep_names.specs.declared.file_name.Kind.{Kind}
use Rattle.keep_names.specs.declared.file_name.Kind.TheVariants.{Pack, Index, Snapshot}
use Rattle.keep_names.specs.declared.id.Id.{Id}
use Rattle.keep_docs.specs.Doc.{doc_of}
use Rattle.keep_docs.specs.Fields.{◌>>=◌, as_id, id_data, values_of}
use Rattle.keep_docs.specs.Lists.{each}
use Rattle.keep_docs.proofs.Built.{as_id-id_data}
use Rattle.keep_docs.proofs.IdTexts.{id_of_text-id_text}
use Rattle.keep_docs.proofs.ReadBack.{doc_of-compact_text}
use Rattle.keep_change.specs.NamedBytes.{NamedBytes}
use Rattle.keep_change.specs.declared.change.Change.{Change}
use Rattle.keep_change.specs.declared.change.PackMark.{PackMark}
use Rattle.keep_journal.specs.declared.event.Event.{Event}
use Rattle.keep_journal.specs.declared.event.EventKind.{EventKind}
use Rattle.keep_journal.specs.declared.event.EventKind.TheVariants.{Commit, Undo, Redo, Empty}
use Rattle.keep_entries.specs.Entry.{FilesFit, Fits, FitsFile, FitsKind, FitsMark, FitsMoment, FitsName, MarksFit, event_said, kind_said, mark_said}
use Rattle.keep_entries.specs.Shape.{as_name, change_in, compact_doc, event_in, file_in, form_in, form_numbered, mark_in, name_of_text, read_of, said_in}
use Rattle.keep_entries.specs.Spelling.{commit_data, event_data, file_data, form_number, kind_data, mark_data, name_data, text_in}
use Rattle.keep_entries.specs.declared.form.Form.{Form}
use Rattle.keep_entries.specs.declared.form.Form.TheVariants.{Packs, Moments}
use Rattle.keep_entries.proofs.HexBytes.{bytes_back}
use Rattle.keep_entries.proofs.Written.{depth-event, readable_event}

-- ---- lists

module _ {A : Type 0} (P : A → Type 0) (read : Data → Option A) (write : A → Data) (told : A → A)
    (one : (x : A) → P x → read (write x) ≡ Some (told x)) where
  -- what is told of each value is read back of a list
  told_back : (xs : List A) → AllByRecursion P xs → each read (values_of (items_of (map write xs))) ≡ Some (map told xs)
  told_back [] h = refl
  told_back (x ∷ xs) h = rw (one x h.0, told_back xs h.1)

module _ {A : Type 0} (P : A → Type 0) (read : Data → Option A) (write : A → Data)
    (one : (x : A) → P x → read (write x) ≡ Some x) where
  -- a list is read back where each value is
  list_back : (xs : List A) → AllByRecursion P xs → each read (values_of (items_of (map write xs))) ≡ Some xs
  list_back xs h = told_back P read write (λ (x : A). x) one xs h ∙ ap Some (map-id xs)

-- ---- names, files, marks

kind_back : (kind : Kind) (id : Id) → IsDigest id → name_of_text (kind_text kind ++ (codes "/" ++ id_text id)) ≡ Some (named kind id)
kind_back Pack id h = rw (id_of_text-id_text id h)
kind_back Index id h = rw (id_of_text-id_text id h)
kind_back Snapshot id h = rw (id_of_text-id_text id h)

name_back : (name : FileName) → FitsName name → as_name (name_data name) ≡ Some name
name_back name h = kind_back name.kind name.id h

file_back : (file : NamedBytes) → FitsFile file → file_in (file_data file) ≡ Some file
file_back file h = rw (name_back file.name h.0, bytes_back file.bytes h.1)

moment_back : (z : ℤ) → FitsMoment z → as_i64 (of_integer z) ≡ Some z
moment_back (pos n) h = rw (lt-ltb n (2 ^ 63) h)
moment_back (negsuc n) h = refl

mark_back : (form : Form) (m : PackMark) → FitsMark m → mark_in form (mark_data form m) ≡ Some (mark_said form m)
mark_back Packs m h = rw (as_id-id_data m.pack h.0)
mark_back Moments m h = rw (as_id-id_data m.pack h.0, moment_back m.mark.moment h.1)

-- ---- events

names_back : (names : List FileName) → AllByRecursion FitsName names → each as_name (values_of (items_of (map name_data names))) ≡ Some names
names_back = list_back FitsName as_name name_data name_back

files_back : (files : List NamedBytes) → AllByRecursion FitsFile files → each file_in (values_of (items_of (map file_data files))) ≡ Some files
files_back = list_back FitsFile file_in file_data file_back

packs_back : (packs : List Id) → AllByRecursion IsDigest packs → each as_id (values_of (items_of (map id_data packs))) ≡ Some packs
packs_back = list_back IsDigest as_id id_data as_id-id_data

marks_back : (form : Form) (marks : List PackMark) → AllByRecursion FitsMark marks
    → each (mark_in form) (values_of (items_of (map (mark_data form) marks))) ≡ Some (map (mark_said form) marks)
marks_back form = told_back FitsMark (mark_in form) (mark_data form) (mark_said form) (mark_back form)

-- what the form tells of a change
abbrev pub change_told : Form → Change → Change
change_told form c = record c { sets = map (mark_said form) c.sets; clears = map (mark_said form) c.clears }

change_back : (form : Form) (n : ℕ) (c : Change) → FilesFit c → MarksFit c → change_in form (commit_data form n c) ≡ Some (change_told form c)
change_back form n c files marks =
    rw (
      files_back c.adds files.adds,
      files_back c.drops files.drops,
      marks_back form c.sets marks.sets,
      marks_back form c.clears marks.clears,
      names_back c.present files.present,
      names_back c.absent files.absent,
      packs_back c.marked marks.marked,
      packs_back c.unmarked marks.unmarked,
    )

-- an event of this number, where what it did can be told
abbrev numbered : ℕ → Option EventKind → Option Event
numbered n told = do
  kind ← told
  Some (record { number = n; kind = kind })

deed_back : (form : Form) (n : ℕ) (kind : EventKind) → FitsKind kind
    → event_in form (kind_data form n kind) ≡ Some (record { number = n; kind = kind_said form kind })
deed_back form n (Commit c) h =
    ap (λ (o : Option Change). numbered n (option_map Commit o)) (change_back form n c h.0 h.1)
deed_back form n Undo h = refl
deed_back form n Redo h = refl
deed_back form n (Empty marks) h =
    ap (λ (o : Option (List PackMark)). numbered n (option_map Empty o)) (marks_back form marks h)

event_back : (form : Form) (event : Event) → Fits event → event_in form (event_data form event) ≡ Some (event_said form event)
event_back form event h = deed_back form event.number event.kind h.kind

form_back : (form : Form) → form_numbered (form_number form) ≡ Some form
form_back Packs = refl
form_back Moments = refl

form_of_kind : (form : Form) (n : ℕ) (kind : EventKind) → form_in (kind_data form n kind) ≡ Some form
form_of_kind form n (Commit c) = form_back form
form_of_kind form n Undo = form_back form
form_of_kind form n Redo = form_back form
form_of_kind form n (Empty marks) = form_back form

form_found : (form : Form) (event : Event) → form_in (event_data form event) ≡ Some form
form_found form event = form_of_kind form event.number event.kind

both_told : (d : Data) (form : Form) (event : Event) → form_in d ≡ Some form → event_in form d ≡ Some event → said_in d ≡ Some (form, event)
both_told d form event is_form is_event = rw (is_form, is_event)

-- a value is found again in its text
compact_back : (d : Data) → doc_of (compact_text d) ≡ Ok d → compact_doc (compact_text d) ≡ Some d
compact_back d document = rw (document, (bytes_eq-Decides (compact_text d) (compact_text d)).1 refl)

-- all that the form tells of an event is read of its text
pub read_back : (form : Form) (event : Event) → Fits event → read_of (text_in form event) ≡ Some (form, event_said form event)
read_back form event h =
    let document = doc_of-compact_text (event_data form event) (readable_event form event h) (depth-event form event) in
    ap (option_and_then said_in) (compact_back (event_data form event) document)
    ∙ both_told (event_data form event) form (event_said form event) (form_found form event) (event_back form event h)
