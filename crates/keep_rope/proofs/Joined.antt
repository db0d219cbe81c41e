-- Pieces that are joined.
use Rattle.std.proofs.Common.{◌≡◌, ◌<◌, ◌+◌, ℕ, List, [], ◌∷◌, ◌++◌, drop, get_or, length, sym, ap, ap₂, ◌∙◌, append_assoc, append-nil}
use Rattle.std.proofs.lemmas.List.{drop_more}
use Rattle.keep_rope.specs.Pieces.{joined, piece_bytes}
use Rattle.keep_rope.specs.declared.piece.Piece.{Piece}

-- one more piece
pub joined_push : (pieces : List Piece) (last : Piece) → joined (pieces ++ last ∷ []) ≡ joined pieces ++ piece_bytes last
joined_push [] last = append-nil (piece_bytes last)
joined_push (piece ∷ pieces) last =
    ap (λ s. piece_bytes piece ++ s) (joined_push pieces last) ∙ sym (append_assoc (piece_bytes piece) (joined pieces) (piece_bytes last))

-- what is left of the pieces, from one on
pub joined_from : (pieces : List Piece) (i : ℕ) (piece : Piece) → i < length pieces → piece ≡ get_or pieces i piece
    → joined (drop i pieces) ≡ piece_bytes piece ++ joined (drop (i + 1) pieces)
joined_from pieces i piece within is =
    ap joined (drop_more pieces i piece within ∙ ap (λ (y : Piece). y ∷ drop (i + 1) pieces) (sym is))

-- what was written as it is became a piece
pub plain_ended : (before : List Piece) {after : List Piece} (plain : List ℕ) (piece : Piece) → piece_bytes piece ≡ plain → after ≡ before ++ piece ∷ []
    → joined after ≡ joined before ++ plain
plain_ended before plain piece is e = ap joined e ∙ joined_push before piece ∙ ap (λ s. joined before ++ s) is

-- and then one of hex came
pub hex_put : (before between after : List Piece) {rest : List ℕ} (plain digits : List ℕ) (one other : Piece) → piece_bytes one ≡ plain → piece_bytes other ≡ digits
    → between ≡ before ++ one ∷ [] → after ≡ between ++ other ∷ [] → rest ≡ []
    → joined after ++ rest ≡ (joined before ++ plain) ++ digits
hex_put before between after plain digits one other is are e f none =
    ap (λ s. joined after ++ s) none ∙ append-nil (joined after) ∙ plain_ended between digits other are f ∙ ap (λ s. s ++ digits) (plain_ended before plain one is e)
