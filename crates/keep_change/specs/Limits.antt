-- How large a change may be.
use Rattle.std.specs.Prelude.{ℕ}

-- the most facets that a change may touch
abbrev pub facet_limit : ℕ
facet_limit = 65536
