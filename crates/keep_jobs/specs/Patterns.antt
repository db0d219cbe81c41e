-- The patterns that texts spell.
use Rattle.std.specs.Prelude.{ℕ, List, [], ◌∷◌, Option, Some}
use Rattle.keep_docs.specs.Fields.{◌>>=◌}
use Rattle.keep_patterns.specs.Parsing.{PatternData, pattern_of}

-- all of them, if each text spells one
abbrev pub patterns_in : List (List ℕ) → Option (List PatternData)
patterns_in [] = Some []
patterns_in (text ∷ texts) = do
  pattern ← pattern_of text
  others ← patterns_in texts
  Some (pattern ∷ others)
