-- Which changes lean on which at once.
use Rattle.std.specs.Prelude.{ℕ, ◌==◌, nat_lt, Bool, List, [], ◌∷◌, filter, Option, Some, None, if◌then◌else◌}
use Rattle.std.specs.List.{list_any}
use Rattle.keep_change.specs.Touch.{written_facets}
use Rattle.keep_change.specs.declared.change.Change.{Change}
use Rattle.keep_journal.specs.Journal.{Journal}
use Rattle.keep_journal.specs.Kept.{kept_change}
use Rattle.keep_repo.specs.declared.facet.Facet.{Facet}
use Rattle.keep_touch.specs.Finding.{in_force}
use Rattle.keep_touch.specs.Mentions.{mentions}
use Rattle.keep_touch.specs.declared.mention.Mention.{Mention}
use Rattle.keep_touch.specs.declared.touch.Touch.{Touch}

-- of the mentions of a facet, in their order, those whose changes find there what stood before them all: those in force, up
-- to the first that writes it
abbrev pub finders : Journal → List Mention → List Mention
finders j [] = []
finders j (mention ∷ rest) =
    if in_force j mention.number
    then mention ∷ (if mention.writes then [] else finders j rest)
    else finders j rest

-- change m finds in the facet what change n left there
abbrev pub finds : Touch → Journal → ℕ → ℕ → Facet → Bool
finds touch j n m facet =
    list_any (λ mention. mention.number == m) (finders j (filter (λ mention. nat_lt n mention.number) (mentions touch facet)))

-- the facets that a change writes, if there is one
abbrev pub written_by : Option Change → List Facet
written_by None = []
written_by (Some change) = written_facets change

-- change m leans on change n at once: of what that one wrote it finds something, where it is in force and not final
abbrev pub leans : Touch → Journal → ℕ → ℕ → Bool
leans touch j n m = list_any (finds touch j n m) (written_by (kept_change j n))
