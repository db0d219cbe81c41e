-- Bytes in pieces.
use Rattle.std.specs.Prelude.{ℕ, List, [], ◌∷◌, ◌++◌}
use Rattle.hex.specs.Hex.{encode_lower}
use Rattle.keep_rope.specs.declared.piece.Piece.{Piece}
use Rattle.keep_rope.specs.declared.piece.Piece.TheVariants.{Plain, Hex}
use Rattle.keep_rope.specs.declared.rope.Held.{Held}
use Rattle.keep_rope.specs.declared.rope.Held.TheVariants.{Whole, InPieces}

-- what a piece stands for
abbrev pub piece_bytes : Piece → List ℕ
piece_bytes (Plain text) = text.items
piece_bytes (Hex bytes) = encode_lower bytes

-- what pieces stand for, one after another
abbrev pub joined : List Piece → List ℕ
joined [] = []
joined (piece ∷ pieces) = piece_bytes piece ++ joined pieces

-- what is held whole, or in pieces
abbrev pub held_bytes : Held → List ℕ
held_bytes (Whole bytes) = bytes
held_bytes (InPieces pieces) = joined pieces.value.items
