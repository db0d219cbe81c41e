-- Which entries there are, and which bytes spell them.
use Rattle.std.specs.Prelude.{◌≡◌, ℕ, ◌<◌, ◌≤◌, ◌^◌, ℤ, pos, negsuc, List, map, length}
use Rattle.std.specs.List.{AllByRecursion}
use Rattle.std.specs.List.Sorted.{IsStrictlySortedBy}
use Rattle.hex.specs.Hex.{IsBytes}
use Rattle.keep_names.specs.Id.{IsDigest}
use Rattle.keep_names.specs.Orders.{id_cmp}
use Rattle.keep_names.specs.declared.file_name.FileName.{FileName}
use Rattle.keep_change.specs.Form.{IsWellFormed}
use Rattle.keep_change.specs.Limits.{facet_limit}
use Rattle.keep_change.specs.Lists.{marked_packs}
use Rattle.keep_change.specs.NamedBytes.{NamedBytes}
use Rattle.keep_change.specs.Touch.{facets}
use Rattle.keep_change.specs.declared.change.Change.{Change}
use Rattle.keep_change.specs.declared.change.PackMark.{PackMark}
use Rattle.keep_journal.specs.declared.event.Entry.{Entry}
use Rattle.keep_journal.specs.declared.event.Event.{Event}
use Rattle.keep_journal.specs.declared.event.EventKind.{EventKind}
use Rattle.keep_journal.specs.declared.event.EventKind.TheVariants.{Commit, Undo, Redo, Empty}
use Rattle.keep_entries.specs.Shape.{mark_at}
use Rattle.keep_entries.specs.Spelling.{text_in}
use Rattle.keep_entries.specs.declared.form.Form.{Form}
use Rattle.keep_entries.specs.declared.form.Form.TheVariants.{Packs, Moments}

-- ---- what the types say

-- a name's id has 32 bytes
abbrev pub FitsName : FileName → Type 0
FitsName name = IsDigest name.id

abbrev pub FitsFile : NamedBytes → Type 0
FitsFile file = FitsName file.name × IsBytes file.bytes

-- a moment has 64 bits with a sign
abbrev pub FitsMoment : ℤ → Type 0
FitsMoment (pos n) = n < 2 ^ 63
FitsMoment (negsuc n) = n < 2 ^ 63

abbrev pub FitsMark : PackMark → Type 0
FitsMark m = IsDigest m.pack × FitsMoment m.mark.moment

-- the files that the change lists fit
pub record FilesFit (c : Change) : Type 0 where
  pub adds : AllByRecursion FitsFile c.adds
  pub drops : AllByRecursion FitsFile c.drops
  pub present : AllByRecursion FitsName c.present
  pub absent : AllByRecursion FitsName c.absent

-- the marks that it lists fit
pub record MarksFit (c : Change) : Type 0 where
  pub sets : AllByRecursion FitsMark c.sets
  pub clears : AllByRecursion FitsMark c.clears
  pub marked : AllByRecursion IsDigest c.marked
  pub unmarked : AllByRecursion IsDigest c.unmarked

-- what an event lists fits
abbrev pub FitsKind : EventKind → Type 0
FitsKind (Commit c) = FilesFit c × MarksFit c
FitsKind Undo = Unit {0}
FitsKind Redo = Unit {0}
FitsKind (Empty marks) = AllByRecursion FitsMark marks

-- an event fits: the change's number is below 2^64, and what is listed fits
pub record Fits (event : Event) : Type 0 where
  pub number : event.number < 2 ^ 64
  pub kind : FitsKind event.kind

-- ---- which entries there are

-- a commit's change is well formed and within the limit of facets, and an emptying's marks are in order, each pack once
abbrev pub IsProper : EventKind → Type 0
IsProper (Commit c) = IsWellFormed c × (length (facets c) ≤ facet_limit)
IsProper Undo = Unit {0}
IsProper Redo = Unit {0}
IsProper (Empty marks) = IsStrictlySortedBy id_cmp (marked_packs marks)

-- an entry of a journal: entries and changes are numbered from 1 on
pub record IsEntry (e : Entry) : Type 0 where
  pub at : 0 < e.at
  pub number : 0 < e.event.number
  pub fits : Fits e.event
  pub proper : IsProper e.event.kind

-- ---- which bytes spell them

-- what a form tells of a mark: where it has no moments, they are 0
abbrev pub mark_said : Form → PackMark → PackMark
mark_said Packs m = mark_at m.pack (pos 0)
mark_said Moments m = m

-- what a form tells of what an event did
abbrev pub kind_said : Form → EventKind → EventKind
kind_said form (Commit c) =
    Commit (record c { sets = map (mark_said form) c.sets; clears = map (mark_said form) c.clears })
kind_said form Undo = Undo
kind_said form Redo = Redo
kind_said form (Empty marks) = Empty (map (mark_said form) marks)

-- and of the event
abbrev pub event_said : Form → Event → Event
event_said form event = record event { kind = kind_said form event.kind }

-- the bytes are the event's text in one of the forms, which tells all of it
abbrev pub Spells : List ℕ → Event → Type 0
Spells bytes event = (form : Form) × (bytes ≡ text_in form event) × (event_said form event ≡ event)

-- the bytes spell no entry of this number
abbrev pub SaysNothing : ℕ → List ℕ → Type 0
SaysNothing k bytes =
    (event : Event) → IsEntry (record { at = k; event = event }) → Spells bytes event → ⊥
