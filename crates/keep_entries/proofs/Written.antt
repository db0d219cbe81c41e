-- The values of events are readable, and nest to three levels.
use Rattle.std.proofs.Common.{ℕ, suc, ◌^◌, ◌<◌, ◌≤◌, ℤ, pos, negsuc, List, [], ◌∷◌, map, codes, IsUtf8, refl, arith}
use Rattle.std.proofs.lemmas.Str.{IsUtf8-append}
use Rattle.std.specs.List.{AllByRecursion}
use Rattle.json.proofs.Printed.Utf8.{IsUtf8-are_ascii}
use Rattle.serde_json.specs.Data.{Data, Members, boolean, number, string, unsigned, no_members, depth, items_depth, members_depth}
use Rattle.serde_json.specs.Find.{of_integer}
use Rattle.serde_json.specs.Read.{max_depth}
use Rattle.serde_json.specs.View.{items_of}
use Rattle.keep_names.specs.FileName.{kind_text}
use Rattle.keep_names.specs.Id.{IsDigest, id_text}
use Rattle.keep_names.specs.declared.file_name.FileName.{FileName}
use Rattle.keep_names.specs.declared.file_name.Kind.{Kind}
use Rattle.keep_names.specs.declared.file_name.Kind.TheVariants.{Pack, Index, Snapshot}
use Rattle.keep_names.specs.declared.id.Id.{Id}
use Rattle.keep_docs.specs.Fields.{id_data}
use Rattle.keep_docs.specs.Lists.{ids_data, list_data}
use Rattle.keep_docs.specs.Readable.{AreReadable, HasReadable, IsReadable, IsWhole}
use Rattle.keep_docs.proofs.Built.{HasReadable-put, IsReadable-id_data}
use Rattle.keep_docs.proofs.Parts.{depth-put}
use Rattle.keep_change.specs.NamedBytes.{NamedBytes}
use Rattle.keep_change.specs.declared.change.Change.{Change}
use Rattle.keep_change.specs.declared.change.PackMark.{PackMark}
use Rattle.keep_journal.specs.declared.event.Event.{Event}
use Rattle.keep_journal.specs.declared.event.EventKind.{EventKind}
use Rattle.keep_journal.specs.declared.event.EventKind.TheVariants.{Commit, Undo, Redo, Empty}
use Rattle.keep_entries.specs.Entry.{FilesFit, Fits, FitsFile, FitsKind, FitsMark, FitsMoment, FitsName, MarksFit}
use Rattle.keep_entries.proofs.PutGroups.{with_files, with_head, with_marks}
use Rattle.keep_entries.specs.Spelling.{commit_data, empty_data, event_data, file_data, files_data, form_number, kind_data, mark_data, marks_data, name_data, names_data, turn_data}
use Rattle.keep_entries.specs.declared.form.Form.{Form}
use Rattle.keep_entries.specs.declared.form.Form.TheVariants.{Packs, Moments}

-- ---- lists

module _ {A : Type 0} (P : A → Type 0) (write : A → Data) (one : (x : A) → P x → IsReadable (write x)) where
  readable_items : (xs : List A) → AllByRecursion P xs → AreReadable (items_of (map write xs))
  readable_items [] h = tt
  readable_items (x ∷ xs) h = (one x h.0, readable_items xs h.1)

  -- a list of readable values is readable
  readable_list : (xs : List A) → AllByRecursion P xs → IsReadable (list_data (map write xs))
  readable_list = readable_items

module _ {A : Type 0} (write : A → Data) (shallow : (x : A) → depth (write x) ≤ 1) where
  items_depth-map : (xs : List A) → items_depth (items_of (map write xs)) ≤ 1
  items_depth-map [] = omega arith
  items_depth-map (x ∷ xs) =
      let one = shallow x in
      let rest = items_depth-map xs in
      omega arith

  -- a list nests one level more than its values
  depth-list : (xs : List A) → depth (list_data (map write xs)) ≤ 2
  depth-list xs = let within = items_depth-map xs in omega arith

-- ---- names, files, marks

kind_utf8 : (kind : Kind) → IsUtf8 (kind_text kind)
kind_utf8 Pack = IsUtf8-are_ascii _ refl
kind_utf8 Index = IsUtf8-are_ascii _ refl
kind_utf8 Snapshot = IsUtf8-are_ascii _ refl

id_utf8 : (id : Id) → IsUtf8 (id_text id)
id_utf8 = IsReadable-id_data

readable_name : (name : FileName) → FitsName name → IsReadable (name_data name)
readable_name name h =
    IsUtf8-append (kind_text name.kind) _ (kind_utf8 name.kind)
    (IsUtf8-append (codes "/") (id_text name.id) (IsUtf8-are_ascii _ refl) (id_utf8 name.id))

pub readable_file : (file : NamedBytes) → FitsFile file → IsReadable (file_data file)
readable_file file h = (
  IsUtf8-are_ascii _ refl,
  id_utf8 (record { 0 = file.bytes }),
  (refl, tt),
  (IsUtf8-are_ascii _ refl, readable_name file.name h.0, tt, tt),
)

whole_moment : (z : ℤ) → FitsMoment z → IsWhole (of_integer z)
whole_moment (pos n) h = omega (arith, h)
whole_moment (negsuc n) h = h

pub readable_mark : (form : Form) (m : PackMark) → FitsMark m → IsReadable (mark_data form m)
readable_mark Packs m h = IsReadable-id_data m.pack
readable_mark Moments m h = (
  IsUtf8-are_ascii _ refl,
  IsReadable-id_data m.pack,
  (refl, tt),
  (IsUtf8-are_ascii _ refl, whole_moment m.mark.moment h.1, tt, tt),
)

names_readable : (names : List FileName) → AllByRecursion FitsName names → IsReadable (names_data names)
names_readable = readable_list FitsName name_data readable_name

files_readable : (files : List NamedBytes) → AllByRecursion FitsFile files → IsReadable (files_data files)
files_readable = readable_list FitsFile file_data readable_file

marks_readable : (form : Form) (marks : List PackMark) → AllByRecursion FitsMark marks → IsReadable (marks_data form marks)
marks_readable form = readable_list FitsMark (mark_data form) (readable_mark form)

packs_readable : (packs : List Id) → AllByRecursion IsDigest packs → IsReadable (ids_data packs)
packs_readable = readable_list IsDigest id_data (λ id _. IsReadable-id_data id)

depth-mark : (form : Form) (m : PackMark) → depth (mark_data form m) ≤ 1
depth-mark Packs m = omega arith
depth-mark Moments m = omega arith

names_depth : (names : List FileName) → depth (names_data names) ≤ 2
names_depth = depth-list name_data (λ name. omega arith)

files_depth : (files : List NamedBytes) → depth (files_data files) ≤ 2
files_depth = depth-list file_data (λ file. omega arith)

marks_depth : (form : Form) (marks : List PackMark) → depth (marks_data form marks) ≤ 2
marks_depth form = depth-list (mark_data form) (depth-mark form)

packs_depth : (packs : List Id) → depth (ids_data packs) ≤ 2
packs_depth = depth-list id_data (λ id. omega arith)

-- ---- the members of a commit

form_small : (form : Form) → form_number form < 2 ^ 64
form_small Packs = omega arith
form_small Moments = omega arith

module _ (form : Form) (n : ℕ) (c : Change) (ms : Members) where
  readable_files : FilesFit c → HasReadable ms → HasReadable (with_files c ms)
  readable_files h all =
      let adds = HasReadable-put (codes "adds") (files_data c.adds) ms (IsUtf8-are_ascii _ refl) (files_readable c.adds h.adds) all in
      let drops = HasReadable-put (codes "drops") (files_data c.drops) _ (IsUtf8-are_ascii _ refl) (files_readable c.drops h.drops) adds in
      let present = HasReadable-put (codes "present") (names_data c.present) _ (IsUtf8-are_ascii _ refl) (names_readable c.present h.present) drops in
      HasReadable-put (codes "absent") (names_data c.absent) _ (IsUtf8-are_ascii _ refl) (names_readable c.absent h.absent) present

  readable_marks : MarksFit c → HasReadable ms → HasReadable (with_marks form c ms)
  readable_marks h all =
      let sets = HasReadable-put (codes "sets") (marks_data form c.sets) ms (IsUtf8-are_ascii _ refl) (marks_readable form c.sets h.sets) all in
      let clears = HasReadable-put (codes "clears") (marks_data form c.clears) _ (IsUtf8-are_ascii _ refl) (marks_readable form c.clears h.clears) sets in
      let marked = HasReadable-put (codes "marked") (ids_data c.marked) _ (IsUtf8-are_ascii _ refl) (packs_readable c.marked h.marked) clears in
      HasReadable-put (codes "unmarked") (ids_data c.unmarked) _ (IsUtf8-are_ascii _ refl) (packs_readable c.unmarked h.unmarked) marked

  readable_head : n < 2 ^ 64 → HasReadable ms → HasReadable (with_head form n c ms)
  readable_head h all =
      let event = HasReadable-put (codes "event") (string (codes "commit")) ms (IsUtf8-are_ascii _ refl) (IsUtf8-are_ascii _ refl) all in
      let of_form = HasReadable-put (codes "form") (number (unsigned (form_number form))) _ (IsUtf8-are_ascii _ refl) (form_small form) event in
      let numbered = HasReadable-put (codes "number") (number (unsigned n)) _ (IsUtf8-are_ascii _ refl) h of_form in
      HasReadable-put (codes "strict") (boolean c.strict) _ (IsUtf8-are_ascii _ refl) tt numbered

  depth-files : members_depth ms ≤ 2 → members_depth (with_files c ms) ≤ 2
  depth-files all =
      let adds = depth-put (codes "adds") (files_data c.adds) ms 2 (files_depth c.adds) all in
      let drops = depth-put (codes "drops") (files_data c.drops) _ 2 (files_depth c.drops) adds in
      let present = depth-put (codes "present") (names_data c.present) _ 2 (names_depth c.present) drops in
      depth-put (codes "absent") (names_data c.absent) _ 2 (names_depth c.absent) present

  depth-marks : members_depth ms ≤ 2 → members_depth (with_marks form c ms) ≤ 2
  depth-marks all =
      let sets = depth-put (codes "sets") (marks_data form c.sets) ms 2 (marks_depth form c.sets) all in
      let clears = depth-put (codes "clears") (marks_data form c.clears) _ 2 (marks_depth form c.clears) sets in
      let marked = depth-put (codes "marked") (ids_data c.marked) _ 2 (packs_depth c.marked) clears in
      depth-put (codes "unmarked") (ids_data c.unmarked) _ 2 (packs_depth c.unmarked) marked

  depth-head : members_depth ms ≤ 2 → members_depth (with_head form n c ms) ≤ 2
  depth-head all =
      let event = depth-put (codes "event") (string (codes "commit")) ms 2 (omega arith) all in
      let of_form = depth-put (codes "form") (number (unsigned (form_number form))) _ 2 (omega arith) event in
      let numbered = depth-put (codes "number") (number (unsigned n)) _ 2 (omega arith) of_form in
      depth-put (codes "strict") (boolean c.strict) _ 2 (omega arith) numbered

-- ---- events

readable_commit : (form : Form) (n : ℕ) (c : Change) → n < 2 ^ 64 → FilesFit c → MarksFit c → IsReadable (commit_data form n c)
readable_commit form n c small files marks =
    let head = readable_head form n c no_members small tt in
    let marked = readable_marks form n c (with_head form n c no_members) marks head in
    readable_files form n c (with_marks form c (with_head form n c no_members)) files marked

readable_turn : (form : Form) (word : List ℕ) (n : ℕ) → IsUtf8 word → n < 2 ^ 64 → IsReadable (turn_data form word n)
readable_turn form word n text small = (
  IsUtf8-are_ascii _ refl,
  text,
  (refl, (refl, tt)),
  (IsUtf8-are_ascii _ refl, form_small form, (refl, tt), (IsUtf8-are_ascii _ refl, small, tt, tt)),
)

readable_empty : (form : Form) (n : ℕ) (marks : List PackMark) → n < 2 ^ 64 → AllByRecursion FitsMark marks → IsReadable (empty_data form n marks)
readable_empty form n marks small fit = (
  IsUtf8-are_ascii _ refl,
  IsUtf8-are_ascii _ refl,
  (refl, (refl, (refl, tt))),
  (
    IsUtf8-are_ascii _ refl,
    form_small form,
    (refl, (refl, tt)),
    (
      IsUtf8-are_ascii _ refl,
      marks_readable form marks fit,
      (refl, tt),
      (IsUtf8-are_ascii _ refl, small, tt, tt),
    ),
  ),
)

pub readable_kind : (form : Form) (n : ℕ) (kind : EventKind) → n < 2 ^ 64 → FitsKind kind → IsReadable (kind_data form n kind)
readable_kind form n (Commit c) below h = readable_commit form n c below h.0 h.1
readable_kind form n Undo below h = readable_turn form (codes "undo") n (IsUtf8-are_ascii _ refl) below
readable_kind form n Redo below h = readable_turn form (codes "redo") n (IsUtf8-are_ascii _ refl) below
readable_kind form n (Empty marks) below h = readable_empty form n marks below h

pub readable_event : (form : Form) (event : Event) → Fits event → IsReadable (event_data form event)
readable_event form event h = readable_kind form event.number event.kind h.number h.kind

depth-commit : (form : Form) (n : ℕ) (c : Change) → depth (commit_data form n c) ≤ max_depth
depth-commit form n c =
    let head = depth-head form n c no_members (omega arith) in
    let marked = depth-marks form n c (with_head form n c no_members) head in
    let within : members_depth (with_files c (with_marks form c (with_head form n c no_members))) ≤ 2
    = depth-files form n c (with_marks form c (with_head form n c no_members)) marked in
    one_more _ within
  where
    one_more : (deep : ℕ) → deep ≤ 2 → suc deep ≤ 127
    one_more deep h = omega arith

depth-kind : (form : Form) (n : ℕ) (kind : EventKind) → depth (kind_data form n kind) ≤ max_depth
depth-kind form n (Commit c) = depth-commit form n c
depth-kind form n Undo = omega arith
depth-kind form n Redo = omega arith
depth-kind form n (Empty marks) = let within = marks_depth form marks in omega arith

pub depth-event : (form : Form) (event : Event) → depth (event_data form event) ≤ max_depth
depth-event form event = depth-kind form event.number event.kind
