-- What is read of an entry's bytes is the event whose text they are.
use Rattle.std.proofs.Common.{◌≡◌, ℕ, ◌^◌, ◌<◌, ◌==◌, Bool, true, false, cond, List, map, codes, Option, None, Some, option_map, refl, sym, ap, subst, ◌∙◌}
use Rattle.std.proofs.lemmas.Bool.{eqb-true}
use Rattle.std.proofs.lemmas.Slice.Eq.{bytes_eq-Decides}
use Rattle.std.specs.List.{AllByRecursion}
use Rattle.std.specs.Result.{result_ok}
use Rattle.std.specs.Str.{bytes_eq}
use Rattle.serde_json.specs.Data.{Data, boolean, number, string, unsigned}
use Rattle.serde_json.specs.Find.{as_bool, as_str, get}
use Rattle.serde_json.specs.Written.{compact_text}
use Rattle.keep_names.specs.Id.{IsDigest}
use Rattle.keep_names.specs.declared.file_name.FileName.{FileName}
use Rattle.keep_names.specs.declared.id.Id.{Id}
use Rattle.keep_docs.specs.Doc.{doc_of}
use Rattle.keep_docs.specs.Fields.{as_id, as_whole, field, id_data}
use Rattle.keep_docs.specs.Lists.{ids_data, list_data}
use Rattle.keep_docs.specs.Readable.{IsReadable}
use Rattle.keep_docs.proofs.Parts.{map_parts, passed, then_parts, whole-field}
use Rattle.keep_docs.proofs.Reading.{document-doc_of}
use Rattle.keep_change.specs.NamedBytes.{NamedBytes}
use Rattle.keep_change.specs.declared.change.Change.{Change}
use Rattle.keep_change.specs.declared.change.PackMark.{PackMark}
use Rattle.keep_journal.specs.declared.event.Event.{Event}
use Rattle.keep_journal.specs.declared.event.EventKind.{EventKind}
use Rattle.keep_journal.specs.declared.event.EventKind.TheVariants.{Commit, Undo, Redo, Empty}
use Rattle.keep_entries.specs.Entry.{FilesFit, Fits, FitsFile, FitsKind, FitsMark, FitsName, MarksFit, event_said, kind_said, mark_said}
use Rattle.keep_entries.specs.Shape.{as_name, change_in, compact_doc, deed_in, deed_named, event_in, file_in, form_in, form_numbered, has_members, list_of, mark_in, members_of, read_of, said_in}
use Rattle.keep_entries.specs.Spelling.{commit_data, empty_data, event_data, file_data, files_data, form_number, kind_data, mark_data, marks_data, name_data, names_data, text_in, turn_data}
use Rattle.keep_entries.specs.declared.form.Form.{Form}
use Rattle.keep_entries.specs.declared.form.Form.TheVariants.{Packs, Moments}
use Rattle.keep_entries.proofs.Exact.{at_key, bool_is, file_is, id_is, list_at, mark_is, name_is, ok_is, sized_parts, string_is, whole_is}
use Rattle.keep_entries.proofs.RoundTrip.{change_told}
use Rattle.keep_entries.proofs.SameMembers.{same_object}
use Rattle.keep_entries.proofs.Telling.{pair_same}
use Rattle.keep_entries.proofs.Written.{readable_kind}

-- ---- changes

module _ (d : Data) (r : IsReadable d) where
  -- a list of what each form tells whole
  plain_at : {A : Type 0} (read : Data → Option A) (write : A → Data) (P : A → Type 0)
      → ((x : Data) (y : A) → IsReadable x → read x ≡ Some y → (x ≡ write y) × P y)
      → (key : List ℕ) (xs : List A) → list_of read key d ≡ Some xs → (get key d ≡ Some (list_data (map write xs))) × AllByRecursion P xs
  plain_at read write P one key xs h =
      let is = list_at read write P (λ y. y) (λ x y s e. let both = one x y s e in (both.0, both.1, refl)) key d xs r h in
      (is.0, is.1)

  files_at : (key : List ℕ) (files : List NamedBytes) → list_of file_in key d ≡ Some files → (get key d ≡ Some (files_data files)) × AllByRecursion FitsFile files
  files_at = plain_at file_in file_data FitsFile file_is

  names_at : (key : List ℕ) (names : List FileName) → list_of as_name key d ≡ Some names → (get key d ≡ Some (names_data names)) × AllByRecursion FitsName names
  names_at = plain_at as_name name_data FitsName (λ x n _ e. name_is x n e)

  packs_at : (key : List ℕ) (packs : List Id) → list_of as_id key d ≡ Some packs → (get key d ≡ Some (ids_data packs)) × AllByRecursion IsDigest packs
  packs_at = plain_at as_id id_data IsDigest (λ x i _ e. id_is x i e)

  marks_at : (form : Form) (key : List ℕ) (marks : List PackMark) → list_of (mark_in form) key d ≡ Some marks
      → (get key d ≡ Some (marks_data form marks)) × AllByRecursion FitsMark marks × (map (mark_said form) marks ≡ marks)
  marks_at form key marks h = list_at (mark_in form) (mark_data form) FitsMark (mark_said form) (mark_is form) key d marks r h

-- the value has the change's lists, which fit and of which the form tells all
record IsChangeOf (form : Form) (d : Data) (c : Change) : Type 0 where
  adds : get (codes "adds") d ≡ Some (files_data c.adds)
  drops : get (codes "drops") d ≡ Some (files_data c.drops)
  sets : get (codes "sets") d ≡ Some (marks_data form c.sets)
  clears : get (codes "clears") d ≡ Some (marks_data form c.clears)
  present : get (codes "present") d ≡ Some (names_data c.present)
  absent : get (codes "absent") d ≡ Some (names_data c.absent)
  marked : get (codes "marked") d ≡ Some (ids_data c.marked)
  unmarked : get (codes "unmarked") d ≡ Some (ids_data c.unmarked)
  strict : get (codes "strict") d ≡ Some (boolean c.strict)
  files : FilesFit c
  marks : MarksFit c
  told : change_told form c ≡ c

inside : (x y : Change) → Some x ≡ Some y → x ≡ y
inside x y h = cc

change_is : (form : Form) (d : Data) (c : Change) → IsReadable d → change_in form d ≡ Some c → IsChangeOf form d c
change_is form d c r h =
    let adds = then_parts (list_of file_in (codes "adds") d) _ c h in
    let drops = then_parts (list_of file_in (codes "drops") d) _ c adds.2 in
    let sets = then_parts (list_of (mark_in form) (codes "sets") d) _ c drops.2 in
    let clears = then_parts (list_of (mark_in form) (codes "clears") d) _ c sets.2 in
    let present = then_parts (list_of as_name (codes "present") d) _ c clears.2 in
    let absent = then_parts (list_of as_name (codes "absent") d) _ c present.2 in
    let marked = then_parts (list_of as_id (codes "marked") d) _ c absent.2 in
    let unmarked = then_parts (list_of as_id (codes "unmarked") d) _ c marked.2 in
    let strict = then_parts (field (codes "strict") as_bool d) _ c unmarked.2 in
    let read : Change = record {
      adds = adds.0;
      drops = drops.0;
      sets = sets.0;
      clears = clears.0;
      present = present.0;
      absent = absent.0;
      marked = marked.0;
      unmarked = unmarked.0;
      strict = strict.0;
    } in
    let same = inside read c strict.2 in
    let are_adds = files_at d r (codes "adds") adds.0 adds.1 in
    let are_drops = files_at d r (codes "drops") drops.0 drops.1 in
    let are_sets = marks_at d r form (codes "sets") sets.0 sets.1 in
    let are_clears = marks_at d r form (codes "clears") clears.0 clears.1 in
    let are_present = names_at d r (codes "present") present.0 present.1 in
    let are_absent = names_at d r (codes "absent") absent.0 absent.1 in
    let are_marked = packs_at d r (codes "marked") marked.0 marked.1 in
    let are_unmarked = packs_at d r (codes "unmarked") unmarked.0 unmarked.1 in
    let is_strict = at_key as_bool boolean (λ _. Unit {0}) (λ x b _ e. (bool_is x b e, tt)) (codes "strict") d strict.0 r strict.1 in
    subst (λ (x : Change). IsChangeOf form d x) same (record {
      adds = are_adds.0;
      drops = are_drops.0;
      sets = are_sets.0;
      clears = are_clears.0;
      present = are_present.0;
      absent = are_absent.0;
      marked = are_marked.0;
      unmarked = are_unmarked.0;
      strict = is_strict.0;
      files = record { adds = are_adds.1; drops = are_drops.1; present = are_present.1; absent = are_absent.1 };
      marks = record { sets = are_sets.1; clears = are_clears.1; marked = are_marked.1; unmarked = are_unmarked.1 };
      told = rw (are_sets.2, are_clears.2) refl;
    })

-- ---- events

-- what stands in each entry
record HasHead (form : Form) (d : Data) (word : List ℕ) (n : ℕ) : Type 0 where
  event : get (codes "event") d ≡ Some (string word)
  form_at : get (codes "form") d ≡ Some (number (unsigned (form_number form)))
  number_at : get (codes "number") d ≡ Some (number (unsigned n))
  small : n < 2 ^ 64

-- the value is the event's, which fits and of which the form tells all
abbrev IsEvent : Form → Data → Event → Type 0
IsEvent form d event = (d ≡ event_data form event) × Fits event × (event_said form event ≡ event)

-- the value is of an event of this number that did this, which fits and of which the form tells all
abbrev IsDeed : Form → Data → ℕ → EventKind → Type 0
IsDeed form d n kind = (d ≡ kind_data form n kind) × FitsKind kind × (kind_said form kind ≡ kind)

module _ (form : Form) (d : Data) (n : ℕ) (r : IsReadable d) where
  commit_is : (kind : EventKind) → HasHead form d (codes "commit") n → has_members 12 d ≡ true → option_map Commit (change_in form d) ≡ Some kind → IsDeed form d n kind
  commit_is kind head size h =
      let change = map_parts (change_in form d) Commit kind h in
      let is = change_is form d change.0 r change.1 in
      let fits : FitsKind (Commit change.0) = (is.files, is.marks) in
      let whole : d ≡ commit_data form n change.0 =
      same_object d _ r (readable_kind form n (Commit change.0) head.small fits) size
      (is.absent, (is.adds, (is.clears, (is.drops, (head.event, (head.form_at, (is.marked, (head.number_at, (is.present, (is.sets, (is.strict, (is.unmarked, tt))))))))))))
      in
      subst (λ (k : EventKind). IsDeed form d n k) change.2 (whole, fits, ap Commit is.told)

  empty_is : (kind : EventKind) → HasHead form d (codes "empty") n → has_members 4 d ≡ true → option_map Empty (list_of (mark_in form) (codes "marks") d) ≡ Some kind → IsDeed form d n kind
  empty_is kind head size h =
      let marks = map_parts (list_of (mark_in form) (codes "marks") d) Empty kind h in
      let are = marks_at d r form (codes "marks") marks.0 marks.1 in
      let whole : d ≡ empty_data form n marks.0 =
      same_object d _ r (readable_kind form n (Empty marks.0) head.small are.1) size (head.event, (head.form_at, (are.0, (head.number_at, tt))))
      in
      subst (λ (k : EventKind). IsDeed form d n k) marks.2 (whole, are.1, ap Empty are.2)

  -- an undo or a redo
  turn_is : (turn kind : EventKind) (word : List ℕ) → kind_data form n turn ≡ turn_data form word n → FitsKind turn → kind_said form turn ≡ turn
      → HasHead form d word n → has_members 3 d ≡ true → Some turn ≡ Some kind → IsDeed form d n kind
  turn_is turn kind word text fits told head size h =
      let same : turn ≡ kind = cc in
      let readable = subst IsReadable text (readable_kind form n turn head.small fits) in
      let whole : d ≡ turn_data form word n = same_object d _ r readable size (head.event, (head.form_at, (head.number_at, tt))) in
      subst (λ (k : EventKind). IsDeed form d n k) same (whole ∙ sym text, fits, told)

  -- the word that an entry has, and how many members it has then
  head_of : (word due : List ℕ) → bytes_eq word due ≡ true → HasHead form d word n → HasHead form d due n
  head_of word due is head = subst (λ (w : List ℕ). HasHead form d w n) ((bytes_eq-Decides word due).0 is) head

  size_of : (due count : ℕ) → Some due ≡ Some count → has_members count d ≡ true → has_members due d ≡ true
  size_of due count is size = let same : due ≡ count = cc in subst (λ (k : ℕ). has_members k d ≡ true) (sym same) size

  by_word : (word : List ℕ) (count : ℕ) (kind : EventKind) (a b c e : Bool)
      → bytes_eq word (codes "commit") ≡ a → bytes_eq word (codes "undo") ≡ b → bytes_eq word (codes "redo") ≡ c → bytes_eq word (codes "empty") ≡ e
      → HasHead form d word n → has_members count d ≡ true
      → cond a (Some 12) (cond b (Some 3) (cond c (Some 3) (cond e (Some 4) None))) ≡ Some count
      → cond a (option_map Commit (change_in form d)) (cond b (Some Undo) (cond c (Some Redo) (cond e (option_map Empty (list_of (mark_in form) (codes "marks") d)) None))) ≡ Some kind
      → IsDeed form d n kind
  by_word word count kind true b c e commit undo redo empty head size due h = commit_is kind (head_of word (codes "commit") commit head) (size_of 12 count due size) h
  by_word word count kind false true c e commit undo redo empty head size due h = turn_is Undo kind (codes "undo") refl tt refl (head_of word (codes "undo") undo head) (size_of 3 count due size) h
  by_word word count kind false false true e commit undo redo empty head size due h = turn_is Redo kind (codes "redo") refl tt refl (head_of word (codes "redo") redo head) (size_of 3 count due size) h
  by_word word count kind false false false true commit undo redo empty head size due h = empty_is kind (head_of word (codes "empty") empty head) (size_of 4 count due size) h
  by_word word count kind false false false false commit undo redo empty head size due h = cc

  deed_is : (kind : EventKind) → get (codes "form") d ≡ Some (number (unsigned (form_number form))) → get (codes "number") d ≡ Some (number (unsigned n)) → n < 2 ^ 64
      → deed_in form d ≡ Some kind → IsDeed form d n kind
  deed_is kind form_at number_at small h =
      let word = then_parts (field (codes "event") as_str d) _ kind h in
      let count = then_parts (members_of word.0) _ kind word.2 in
      let rest = sized_parts (has_members count.0 d) (deed_named form d word.0) kind count.2 in
      let is_word = at_key as_str string (λ _. Unit {0}) (λ x t _ e. (string_is x t e, tt)) (codes "event") d word.0 r word.1 in
      let head : HasHead form d word.0 n = record { event = is_word.0; form_at = form_at; number_at = number_at; small = small } in
      by_word word.0 count.0 kind _ _ _ _ refl refl refl refl head rest.0 count.1 rest.1

-- the event of this number that did this
abbrev doing : ℕ → EventKind → Event
doing n kind = record { number = n; kind = kind }

event_is : (form : Form) (d : Data) (event : Event) → IsReadable d → get (codes "form") d ≡ Some (number (unsigned (form_number form))) → event_in form d ≡ Some event → IsEvent form d event
event_is form d event r form_at h =
    let n = then_parts (field (codes "number") as_whole d) _ event h in
    let kind = then_parts (deed_in form d) (λ k. Some (doing n.0 k)) event n.2 in
    let same : doing n.0 kind.0 ≡ event = cc in
    let is_number = at_key as_whole (λ k. number (unsigned k)) (λ _. Unit {0}) (λ x k _ e. (whole_is x k e, tt)) (codes "number") d n.0 r n.1 in
    let small = whole-field (codes "number") d n.0 r n.1 in
    let is = deed_is form d n.0 r kind.0 form_at is_number.0 small kind.1 in
    let fits : Fits (doing n.0 kind.0) = record { number = small; kind = is.1 } in
    subst (λ (e : Event). IsEvent form d e) same (is.0, fits, ap (doing n.0) is.2)

form_by : (a b : Bool) (n : ℕ) (form : Form) → (n == 1) ≡ a → (n == 2) ≡ b → cond a (Some Packs) (cond b (Some Moments) None) ≡ Some form → n ≡ form_number form
form_by true b n form one two h = let same : Packs ≡ form = cc in subst (λ (f : Form). n ≡ form_number f) same (eqb-true n 1 one)
form_by false true n form one two h = let same : Moments ≡ form = cc in subst (λ (f : Form). n ≡ form_number f) same (eqb-true n 2 two)
form_by false false n form one two h = cc

form_is : (d : Data) (form : Form) → IsReadable d → form_in d ≡ Some form → get (codes "form") d ≡ Some (number (unsigned (form_number form)))
form_is d form r h =
    let n = then_parts (field (codes "form") as_whole d) form_numbered form h in
    let is = at_key as_whole (λ k. number (unsigned k)) (λ _. Unit {0}) (λ x k _ e. (whole_is x k e, tt)) (codes "form") d n.0 r n.1 in
    is.0 ∙ ap (λ (k : ℕ). Some (number (unsigned k))) (form_by (n.0 == 1) (n.0 == 2) n.0 form refl refl n.2)

told_is : (d : Data) (form : Form) (event : Event) → IsReadable d → said_in d ≡ Some (form, event) → IsEvent form d event
told_is d form event r h =
    let found = then_parts (form_in d) _ (form, event) h in
    let told = then_parts (event_in found.0 d) _ (form, event) found.2 in
    let same = pair_same (found.0, told.0) (form, event) told.2 in
    let is = event_is found.0 d told.0 r (form_is d found.0 r found.1) told.1 in
    subst (λ (e : Event). IsEvent form d e) same.1 (subst (λ (f : Form). IsEvent f d told.0) same.0 is)

-- what bytes are read as fits, they are its text, and the form tells all of it
pub read_is : (bytes : List ℕ) (form : Form) (event : Event) → read_of bytes ≡ Some (form, event)
    → Fits event × (bytes ≡ text_in form event) × (event_said form event ≡ event)
read_is bytes form event h =
    let compact = then_parts (compact_doc bytes) said_in (form, event) h in
    let found = then_parts (result_ok (doc_of bytes)) _ compact.0 compact.1 in
    let text = passed (bytes_eq bytes (compact_text found.0)) found.0 compact.0 found.2 in
    let readable = (document-doc_of bytes found.0 (ok_is (doc_of bytes) found.0 found.1)).0 in
    let is = told_is compact.0 form event (subst IsReadable text.1 readable) compact.2 in
    let whole = (bytes_eq-Decides bytes (compact_text found.0)).0 text.0 in
    (is.1, whole ∙ ap compact_text (text.1 ∙ is.0), is.2)

-- where an event is found, it is read in some form
pub event_found : (bytes : List ℕ) (event : Event) → option_map (λ told. told.1) (read_of bytes) ≡ Some event → (form : Form) × (read_of bytes ≡ Some (form, event))
event_found bytes event h =
    let told = map_parts (read_of bytes) (λ (t : Form × Event). t.1) event h in
    (told.0.0, told.1 ∙ ap (λ (e : Event). Some (told.0.0, e)) told.2)

-- where none is found, nothing is read
pub none_found : (o : Option (Form × Event)) → option_map (λ told. told.1) o ≡ None → o ≡ None
none_found None h = refl
none_found (Some told) h = cc
