-- A history as a value.
use Rattle.std.specs.Prelude.{ℕ, List, [], ◌∷◌, ◌++◌}
use Rattle.keep_change.specs.declared.change.Change.{Change}
use Rattle.keep_journal.specs.declared.event.Entry.{Entry}
use Rattle.keep_journal.specs.declared.event.Event.{Event}

-- the final number that the history began with, and the events since, each under its own number
pub record Journal : Type 0 where
  pub base : ℕ
  pub entries : List Entry

-- the journal with one more event at its end, under this number
abbrev pub posted : Journal → ℕ → Event → Journal
posted j at event = record j { entries = j.entries ++ record { at = at; event = event } ∷ [] }

-- a journal, how many more events there is room for, and the changes that are held in memory with their bytes
pub record Recorded : Type 0 where
  pub journal : Journal
  pub room : ℕ
  pub held : List Change
