-- What patterns take out.
use Rattle.std.specs.Prelude.{ℕ, Bool, List, map}
use Rattle.std.specs.List.{slice_split}
use Rattle.std.specs.Str.{chars}
use Rattle.keep_patterns.specs.Parsing.{PatternData, is_slash}
use Rattle.keep_patterns.specs.Without.{is_matched}

-- whether one of the patterns matches the path, whose names are what stands between its slashes
abbrev pub is_excluded : List PatternData → List ℕ → Bool
is_excluded patterns path = is_matched patterns (map chars (slice_split is_slash path))
