-- What the input has ahead of it, and what a line takes of that.
use Rattle.std.specs.Prelude.{◌≡◌, ◌⊎◌, ℕ, ◌+◌, Bool, true, false, List, ◌++◌, Option, IfSome, drop, length, codes}
use Rattle.std.specs.Io.KnownBytes.{Consumes, IsAtEnd, prepend_known}
use Rattle.keep_script.specs.Line.{HasLineEnd}
use Rattle.keep_script.specs.declared.input.Input.{Input}
use Rattle.keep_script.specs.declared.input.Piece.{Piece}
use Rattle.keep_script.specs.declared.input.Piece.TheVariants.{Line, Last}
use Rattle.keep_script.specs.declared.status.Stop.{Stop}
use Rattle.keep_script.specs.declared.status.Stop.TheVariants.{ReadFailed, ScriptTooLong}

-- what was read and isn't used yet
abbrev pub unread_of : Input → List ℕ
unread_of input = drop input.used input.chunk.items

-- that, and then what the reader has left, where it is known
abbrev pub left_of : Input → Option (List ℕ) → Option (List ℕ)
left_of input remaining = prepend_known (unread_of input) remaining

-- how many bytes can still come of it
abbrev pub ahead_of : Input → ℕ
ahead_of input = input.bytes_left + length (unread_of input)

-- the bytes of a piece, without a line end
abbrev pub bytes_of : Piece → List ℕ
bytes_of (Line line) = line.items
bytes_of (Last line) = line.items

-- whether a line end follows the piece
abbrev pub ends_line : Piece → Bool
ends_line (Line line) = true
ends_line (Last line) = false

-- how many bytes of the script a piece is, with its line end
abbrev pub size_of : Piece → ℕ
size_of (Line line) = length line.items + 1
size_of (Last line) = length line.items

-- known bytes get fewer by just what the number does
abbrev pub Counted : Option (List ℕ) → ℕ → Option (List ℕ) → ℕ → Type 0
Counted old before new after = IfSome old (λ xs. IfSome new (λ ys. length xs + after ≡ length ys + before))

-- known bytes lose a line and its end, or all that is left where no line has an end
abbrev pub Takes : Option (List ℕ) → Option (List ℕ) → Piece → Type 0
Takes old new (Line line) = (HasLineEnd line.items → ⊥) × Consumes old new (line.items ++ codes "\n")
Takes old new (Last line) = (HasLineEnd line.items → ⊥) × Consumes old new line.items × IsAtEnd new

-- known bytes lose a piece without a line end
abbrev pub LosesPiece : Option (List ℕ) → Option (List ℕ) → Type 0
LosesPiece old new = (piece : List ℕ) × (HasLineEnd piece → ⊥) × Consumes old new piece

-- no more of the script is read: a read failed, or the script is too long
abbrev pub EndsReading : Stop → Type 0
EndsReading stop = (stop ≡ ReadFailed) ⊎ (stop ≡ ScriptTooLong)
