-- Bytes of a file that are cut as they come.
use Rattle.std.specs.Prelude.{◌≡◌, ◌++◌, ℕ, List, map}
use Rattle.std.specs.Global.{Vec}
use Rattle.keep_archive.specs.Steps.{IsCut}
use Rattle.keep_archive.specs.declared.cut_bytes.CutBytes.{CutBytes}

-- the bytes of each piece
abbrev pub pieces_in : List (Vec ℕ) → List (List ℕ)
pieces_in pieces = map (λ piece. piece.items) pieces

-- these bytes are cut behind others: whatever was cut so far, it and they are cut now
pub record CutsOn (bytes : List ℕ) (old made : CutBytes) : Type 0 where
  pub cut : made.cut.bytes ≡ old.cut.bytes
  pub cut_so : (before : List ℕ) → IsCut old.cut.bytes before (pieces_in old.whole.items) old.rest.items
      → IsCut old.cut.bytes (before ++ bytes) (pieces_in made.whole.items) made.rest.items
