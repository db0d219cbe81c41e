-- What each facet held before some changes, read off them and off what it holds after.
use Rattle.std.specs.Prelude.{List, [], ◌∷◌}
use Rattle.std.specs.Option.{option_map_or}
use Rattle.keep_change.specs.Change.{Holding, record_of, written}
use Rattle.keep_change.specs.Fold.{Numbered}

-- what each facet held before these changes, where it holds this after them: what the first of them that writes it asked for
abbrev pub value_at : List Numbered → Holding → Holding
value_at [] end facet = end facet
value_at (n ∷ ns) end facet =
    option_map_or (λ w. w.before) (record_of (written n.change) facet) (value_at ns end facet)
