-- The words of a line that gives snapshots other tags.
use Rattle.std.proofs.Common.{◌≢◌, ℕ, List, ◌∷◌, string_bytes, sym}
use Rattle.keep_names.specs.Parses.{NonePrints}
use Rattle.keep_lines.specs.TagLine.{IsTagWord, tag_word_text}
use Rattle.keep_lines.specs.declared.tag_line.TagWord.TheVariants.{Add, Remove, Set}

-- a word without one of the signs is none
pub no_tag_word : (word : List ℕ) → ((rest : List ℕ) → word ≢ 43 ∷ rest) → ((rest : List ℕ) → word ≢ 45 ∷ rest) → ((rest : List ℕ) → word ≢ 61 ∷ rest) → NonePrints IsTagWord tag_word_text word
no_tag_word word plus minus equals (Add tag) said e = plus (string_bytes tag) (sym e)
no_tag_word word plus minus equals (Remove tag) said e = minus (string_bytes tag) (sym e)
no_tag_word word plus minus equals (Set tag) said e = equals (string_bytes tag) (sym e)
