-- Which nodes of a snapshot are put back, where patterns say which.
use Rattle.std.specs.Prelude.{if◌then◌else◌, ◌≡◌, ℕ, zero, suc, ◌==◌, ◌||◌, Bool, true, false, List, [], ◌∷◌, ◌++◌, Option, None, Some, codes, length, map, take}
use Rattle.std.specs.List.{starts_with}
use Rattle.std.specs.Str.{chars}
use Rattle.keep_nodes.specs.Choosing.{names_in}
use Rattle.keep_nodes.specs.Entries.{EntryData}
use Rattle.keep_patterns.specs.Parsing.{PatternData}
use Rattle.keep_patterns.specs.Without.{is_matched}

-- whether one of the patterns matches so many first ones of these names, or fewer
abbrev pub matches_first : List PatternData → List (List ℕ) → ℕ → Bool
matches_first patterns names zero = false
matches_first patterns names (suc n) = is_matched patterns (take (suc n) names) || matches_first patterns names n

-- whether a node of these names is asked for: by no pattern all are, else those that one of the patterns matches, and what
-- is below such a folder
abbrev pub is_within : List PatternData → List (List ℕ) → Bool
is_within [] names = true
is_within (pattern ∷ patterns) names = matches_first (pattern ∷ patterns) names (length names)

-- whether a folder of this path is on the way to this node
abbrev pub leads_to : List ℕ → Option EntryData → Bool
leads_to path None = false
leads_to path (Some entry) = starts_with (λ a b. a == b) entry.path (path ++ codes "/")

abbrev pub first : List EntryData → Option EntryData
first [] = None
first (entry ∷ entries) = Some entry

-- a node before those that are chosen behind it: it is chosen if it is asked for, or on the way to the next one
-- that is chosen (what a folder has stands right behind it)
abbrev pub chosen_before : List PatternData → EntryData → List EntryData → List EntryData
chosen_before patterns entry behind =
    if is_within patterns (map chars (names_in entry.path)) || leads_to entry.path (first behind) then entry ∷ behind else behind

-- those that are chosen of nodes, and then those behind them
abbrev pub chosen_onto : List PatternData → List EntryData → List EntryData → List EntryData
chosen_onto patterns [] behind = behind
chosen_onto patterns (entry ∷ entries) behind = chosen_before patterns entry (chosen_onto patterns entries behind)

-- those that are asked for, and the folders on the way to them, in their order
abbrev pub included : List PatternData → List EntryData → List EntryData
included patterns entries = chosen_onto patterns entries []

-- without patterns nothing is left out
abbrev pub NoPatternMeansAll : Type 0
NoPatternMeansAll = (entries : List EntryData) → included [] entries ≡ entries
