-- What a path has left open of patterns.
use Rattle.std.specs.Prelude.{ℕ, ◌+◌, List, length, map, filter, take}
use Rattle.std.specs.List.{enumerate_from, flat_map, range_with_len}
use Rattle.keep_patterns.specs.Matching.{matches}
use Rattle.keep_patterns.specs.Parsing.{PatternData}
use Rattle.keep_patterns.specs.declared.rest.Rest.{Rest}

-- how many of a pattern's first components, from none to all, match a path by themselves
abbrev pub used_at : List (List ℕ) → PatternData → List ℕ
used_at path pattern =
    filter (λ used. matches pattern.0 (take used pattern.1) path) (range_with_len 0 (length pattern.1 + 1))

-- what a path has left open of a pattern, with the pattern's place among the others
abbrev pub left_of : List (List ℕ) → ℕ × PatternData → List Rest
left_of path placed = map (λ used. record { pattern = placed.0; used = used }) (used_at path placed.1)

-- What a path has left open of patterns: of each in turn, how many of its first components match the path. Those
-- behind them are to be matched by what is below it.
abbrev pub left_at : List PatternData → List (List ℕ) → List Rest
left_at patterns path = flat_map (left_of path) (enumerate_from 0 patterns)
