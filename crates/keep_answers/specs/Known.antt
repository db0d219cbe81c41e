-- What is written to a writer whose bytes are known.
use Rattle.std.specs.Prelude.{◌≡◌, ◌⊎◌, ℕ, List, [], ◌++◌, codes, Option, Result, Ok, Err}
use Rattle.std.specs.Io.KnownBytes.{Appends}
use Rattle.keep_answers.specs.declared.halt.Halt.{Halt}
use Rattle.keep_answers.specs.declared.halt.Halt.TheVariants.{BadLine, WriteFailed, NoMemory, Untold}

-- a text with a line end
abbrev pub line : List ℕ → List ℕ
line text = text ++ codes "\n"

-- known bytes grow by a first part of the text, which may be none or all of it
pub record AppendsPart (old new : Option (List ℕ)) (text : List ℕ) : Type 0 where
  pub part : List ℕ
  pub rest : List ℕ
  pub split : text ≡ part ++ rest
  pub appended : Appends old new part

-- known bytes grow by the text, and at a failure by a first part of it
abbrev pub Puts : Option (List ℕ) → Option (List ℕ) → List ℕ → Result (Unit {0}) Halt → Type 0
Puts old new text (Ok _) = Appends old new text
Puts old new text (Err (BadLine why)) = ⊥
Puts old new text (Err WriteFailed) = AppendsPart old new text
Puts old new text (Err NoMemory) = AppendsPart old new text
Puts old new text (Err Untold) = ⊥

-- known bytes grow by a text of which this holds
abbrev pub Writes : Option (List ℕ) → Option (List ℕ) → (List ℕ → Type 0) → Type 0
Writes old new P = (text : List ℕ) × Appends old new text × P text

-- nothing, or a text that ends with a line end
abbrev pub AreLines : List ℕ → Type 0
AreLines text = (text ≡ []) ⊎ ((front : List ℕ) × (text ≡ line front))

-- known bytes grow by whole lines
abbrev pub WritesLines : Option (List ℕ) → Option (List ℕ) → Type 0
WritesLines old new = Writes old new AreLines
