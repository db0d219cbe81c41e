-- How a pattern is spelt: what stands between the slashes of a text in UTF-8.
use Rattle.std.specs.Prelude.{ℕ, ◌==◌, Bool, false, ◌||◌, ◌&&◌, List, [], ◌∷◌, map, Option, None, Some, codes, if◌then◌else◌}
use Rattle.std.specs.List.{list_any, slice_split}
use Rattle.std.specs.Str.{bytes_eq, chars}
use Rattle.keep_patterns.specs.Matching.{is_nil}
use Rattle.keep_patterns.specs.declared.pattern.Component.{Component}
use Rattle.keep_patterns.specs.declared.pattern.Component.TheVariants.{AnyDepth, Name}
use Rattle.keep_patterns.specs.declared.pattern.Pattern.{Pattern}

-- what a pattern says: whether it is anchored, and its components
abbrev pub PatternData : Type 0
PatternData = Bool × List Component

abbrev pub pattern_view : Pattern → PatternData
pattern_view pattern = (pattern.anchored, pattern.components.items)

-- whether a text begins with the byte
abbrev pub begins_with : ℕ → List ℕ → Bool
begins_with byte [] = false
begins_with byte (c ∷ text) = c == byte

-- `/`
abbrev pub is_slash : ℕ → Bool
is_slash c = c == 47

-- `[` or `\`, which other tools give a meaning to
abbrev pub is_reserved : ℕ → Bool
is_reserved c = c == 91 || c == 92

-- a text without the `/` that it begins with
abbrev pub after_slash : List ℕ → List ℕ
after_slash [] = []
after_slash (c ∷ text) = if is_slash c then text else (c ∷ text)

-- a text without the `/` that it ends with
abbrev pub before_slash : List ℕ → List ℕ
before_slash [] = []
before_slash (c ∷ text) = if is_nil text && is_slash c then [] else (c ∷ before_slash text)

-- what stands between its slashes, without one that it begins with and one that it ends with
abbrev pub parts_of : List ℕ → List (List ℕ)
parts_of text = slice_split is_slash (before_slash (after_slash text))

-- whether a text spells no pattern: a part is empty, or it begins with `!`, or has a reserved character
abbrev pub is_bad : List ℕ → Bool
is_bad text = begins_with 33 text || list_any is_reserved text || list_any is_nil (parts_of text)

-- the component that a part spells
abbrev pub component_of : List ℕ → Component
component_of part = if bytes_eq part (codes "**") then AnyDepth else Name (chars part)

-- the pattern that a text spells
abbrev pub pattern_of : List ℕ → Option PatternData
pattern_of text = if is_bad text then None else Some (begins_with 47 text, map component_of (parts_of text))
