-- The events of a chronicle.
use Rattle.std.specs.Prelude.{true, List, [], ◌∷◌, ◌++◌, fold}
use Rattle.logbook.specs.Pages.{Book, Named}
use Rattle.keep_journal.specs.Journal.{Journal}
use Rattle.keep_journal.specs.declared.event.Event.{Event}
use Rattle.keep_chronicle.specs.declared.note.Note.{Note}

-- all events of the notes, in their order
abbrev pub events_of : List Note → List Event
events_of [] = []
events_of (n ∷ ns) = n.events ++ events_of ns

-- the last event of a journal, as a list: none where it has none
abbrev pub last_events : Journal → List Event
last_events j = fold (λ before e. e.event ∷ []) [] j.entries

-- the one word of a book
abbrev pub head_of : Book → Named
head_of book = record { tracked = true; key = 0; book = book }
