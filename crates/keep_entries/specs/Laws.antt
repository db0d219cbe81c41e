-- No bytes can be taken for another event, and what an open history has can be written.
use Rattle.std.specs.Prelude.{◌≡◌, ◌≢◌, ◌⊎◌, ℕ, List, Contains, Some}
use Rattle.std.specs.List.Sorted.{IsStrictlySortedBy}
use Rattle.keep_names.specs.Orders.{id_cmp}
use Rattle.keep_repo.specs.Repository.{Repository}
use Rattle.keep_change.specs.Lists.{marked_packs}
use Rattle.keep_journal.specs.History.{last_marks}
use Rattle.keep_journal.specs.Journal.{Journal}
use Rattle.keep_journal.specs.Opening.{IsOpen}
use Rattle.keep_journal.specs.declared.event.Entry.{Entry}
use Rattle.keep_journal.specs.declared.event.Event.{Event}
use Rattle.keep_journal.specs.declared.event.EventKind.{EventKind}
use Rattle.keep_journal.specs.declared.event.EventKind.TheVariants.{Empty}
use Rattle.keep_entries.specs.Entry.{Fits, IsEntry, Spells}
use Rattle.keep_entries.specs.Spelling.{entry_text, text_in}
use Rattle.keep_entries.specs.declared.form.Form.TheVariants.{Packs, Moments}

-- two events that bytes spell are one
abbrev pub OneEventIsSpelled : Type 0
OneEventIsSpelled =
    (bytes : List ℕ) (a b : Event) → Fits a → Fits b → Spells bytes a → Spells bytes b → a ≡ b

-- no text of one form is a text of the other
abbrev pub FormsDiffer : Type 0
FormsDiffer = (a b : Event) → Fits a → Fits b → text_in Packs a ≢ text_in Moments b

-- an emptying's marks are those of the history's last one, or in order
abbrev pub HasMarksInOrder : Journal → EventKind → Type 0
HasMarksInOrder j (Empty marks) = (last_marks j ≡ Some marks) ⊎ IsStrictlySortedBy id_cmp (marked_packs marks)
HasMarksInOrder j _ = Unit {0}

-- an event of an open history that fits, as all that is written does, is an entry, and its text spells it; only an
-- earlier emptying's marks have to be in order, of which an open history says nothing
abbrev pub EventsOfOpenHistoriesAreEntries : Type 0
EventsOfOpenHistoriesAreEntries =
    (opening live : Repository) (j : Journal) (e : Entry)
    → IsOpen opening j live → Contains j.entries e → Fits e.event → HasMarksInOrder j e.event.kind
    → IsEntry e × Spells (entry_text e.event) e.event
