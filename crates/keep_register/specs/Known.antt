-- What a pass knows.
use Rattle.std.specs.Prelude.{◌≡◌, ℕ, Bool, false, List, []}
use Rattle.std.specs.List.{All}
use Rattle.keep_journal.specs.declared.event.Event.{Event}

-- the events that it was shown or told of since the desk was opened, whether it reads a page, those that stood on the
-- page that it read last, and how many of its own events are in
pub record Known : Type 0 where
  pub seen : List Event
  pub shown : Bool
  pub read : List Event
  pub counted : ℕ

-- a pass that was just made
abbrev pub fresh : Known
fresh = record { seen = []; shown = false; read = []; counted = 0 }

-- so are all of these
abbrev pub AreFresh : List Known → Type 0
AreFresh passes = All (λ p. p ≡ fresh) passes
