-- Lines that end in any number of words of one sort.
use Rattle.std.specs.Prelude.{ℕ, ◌<◌, List, ◌∷◌, String, length, map, string_bytes}
use Rattle.std.specs.Global.{Global, Vec}
use Rattle.std.specs.List.{AllByRecursion, join_with_byte}
use Rattle.std.specs.Str.Iter.{LacksByte}

-- a text with something in it, and no space
abbrev pub IsWord : List ℕ → Type 0
IsWord text = (0 < length text) × LacksByte 32 text

-- texts without spaces
abbrev pub AreSpaceless : List (List ℕ) → Type 0
AreSpaceless = AllByRecursion (LacksByte 32)

-- values each of which counts
abbrev pub AreAll : {W : Type 0} → (W → Type 0) → Vec W → Type 0
AreAll IsSaid values = AllByRecursion IsSaid values.items

-- the words for these
abbrev pub words_for : {W : Type 0} → (W → List ℕ) → Vec W → List (List ℕ)
words_for text values = map text values.items

-- the name of a filter, and the words for the values behind it, with single spaces between
abbrev pub filter_text : {W : Type 0} → (W → List ℕ) → String Global × Vec W → List ℕ
filter_text text asked = join_with_byte 32 (string_bytes asked.0 ∷ words_for text asked.1)

-- the name is a word, and each value counts
abbrev pub IsForFilter : {W : Type 0} → (W → Type 0) → String Global × Vec W → Type 0
IsForFilter IsSaid asked = IsWord (string_bytes asked.0) × AreAll IsSaid asked.1
