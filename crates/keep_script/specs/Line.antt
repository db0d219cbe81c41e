-- The lines of a script, as bytes.
use Rattle.std.specs.Prelude.{ℕ, ◌<◌, ◌==◌, Bool, if◌then◌else◌, List, [], ◌∷◌, length}
use Rattle.std.specs.List.{flat_map, position_or_len}
use Rattle.keep_answers.specs.Known.{line}

-- how many bytes a run reads at most
abbrev pub longest_script : ℕ
longest_script = 67108864

-- whether b ends a line
abbrev pub is_line_end : ℕ → Bool
is_line_end b = b == 10

-- a line end is among the bytes
abbrev pub HasLineEnd : List ℕ → Type 0
HasLineEnd bytes = position_or_len is_line_end bytes < length bytes

-- the byte stands in front of the first line
abbrev pub onto_first : ℕ → List (List ℕ) → List (List ℕ)
onto_first b [] = (b ∷ []) ∷ []
onto_first b (line ∷ lines) = (b ∷ line) ∷ lines

-- the lines of some bytes: each goes up to a line end, which the last one may lack
abbrev pub lines_of : List ℕ → List (List ℕ)
lines_of [] = []
lines_of (b ∷ bytes) = if is_line_end b then [] ∷ lines_of bytes else onto_first b (lines_of bytes)

-- lines, each with its end
abbrev pub ended : List (List ℕ) → List ℕ
ended lines = flat_map line lines
