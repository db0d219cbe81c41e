-- How far a history can grow.
use Rattle.std.specs.Prelude.{ℕ}

-- the greatest number that an event can have
abbrev pub event_limit : ℕ
event_limit = 16777216

-- the greatest number that a change can have
abbrev pub change_limit : ℕ
change_limit = 1048576
