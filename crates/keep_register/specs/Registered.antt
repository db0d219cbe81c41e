-- What a register says.
use Rattle.std.specs.Prelude.{ℕ, List}
use Rattle.keep_journal.specs.declared.event.Event.{Event}

-- the events that were accepted since the desk was opened, and how often the keeper's shelf has failed
pub record Registered : Type 0 where
  pub events : List Event
  pub failures : ℕ
