-- What an event is about, and what it did.
use Rattle.std.specs.Prelude.{ℕ, List, Option, Some, None}
use Rattle.std.specs.Option.{option_map}
use Rattle.keep_names.specs.declared.file_name.FileName.{FileName}
use Rattle.keep_change.specs.Fold.{Numbered}
use Rattle.keep_change.specs.Lists.{file_names}
use Rattle.keep_change.specs.declared.change.Change.{Change}
use Rattle.keep_change.specs.declared.change.PackMark.{PackMark}
use Rattle.keep_change.specs.declared.outline.What.{What}
use Rattle.keep_change.specs.declared.outline.What.TheVariants as what
use Rattle.keep_journal.specs.declared.event.Entry.{Entry}
use Rattle.keep_journal.specs.declared.event.Event.{Event}
use Rattle.keep_journal.specs.declared.event.EventKind.{EventKind}
use Rattle.keep_journal.specs.declared.event.EventKind.TheVariants.{Commit, Undo, Redo, Empty}
use Rattle.keep_journal.specs.declared.event.Notice.{Notice}

-- the event that makes a change for the first time, under this number
abbrev pub committing : ℕ → Change → Event
committing n c = record { number = n; kind = Commit c }

-- the event that takes change n back
abbrev pub undoing : ℕ → Event
undoing n = record { number = n; kind = Undo }

-- the event that makes change n again
abbrev pub redoing : ℕ → Event
redoing n = record { number = n; kind = Redo }

-- the event that makes all changes up to n final, over an opening with these marks
abbrev pub emptying : ℕ → List PackMark → Event
emptying n marks = record { number = n; kind = Empty marks }

-- what was done to the change
abbrev pub what_by : EventKind → What
what_by (Commit c) = what.Commit
what_by Undo = what.Undo
what_by Redo = what.Redo
what_by (Empty marks) = what.Empty

abbrev pub what_of : Event → What
what_of e = what_by e.kind

-- the change that is made for the first time, under its number
abbrev pub commit_by : ℕ → EventKind → Option Numbered
commit_by n (Commit c) = Some (record { number = n; change = c })
commit_by n _ = None

abbrev pub commit_of : Event → Option Numbered
commit_of e = commit_by e.number e.kind

-- the names of the files that a commit's change adds
abbrev pub names_added : Event → Option (List FileName)
names_added e = option_map (λ n. file_names n.change.adds) (commit_of e)

-- what is told of an entry for good
abbrev pub notice_of : Entry → Notice
notice_of e = record { at = e.at; what = what_of e.event; change = e.event.number }
