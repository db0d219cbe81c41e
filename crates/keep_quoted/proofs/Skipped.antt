-- The bytes that a piece still has are passed over.
use Rattle.std.proofs.Common.{◌≡◌, ℕ, zero, suc, List, [], ◌∷◌, ◌++◌, drop, Option, None, Some, option_map, option_and_then, refl, ap, ◌∙◌, append-nil, append_assoc, sym}
use Rattle.keep_quoted.specs.Unquote.{Piece, bytes_of, piece_at, unquoted, unquoted_behind}

pub unquoted-drop : (more : ℕ) (text : List ℕ) → unquoted_behind more text ≡ unquoted (drop more text)
unquoted-drop zero text = refl
unquoted-drop (suc more) [] = refl
unquoted-drop (suc more) (c ∷ text) = unquoted-drop more text

-- bytes before those that may be found
abbrev pub before : List ℕ → Option (List ℕ) → Option (List ℕ)
before bytes found = option_map (λ more. bytes ++ more) found

pub before-before : (one other : List ℕ) (found : Option (List ℕ)) → before one (before other found) ≡ before (one ++ other) found
before-before one other None = refl
before-before one other (Some bytes) = ap (λ t. Some t) (sym (append_assoc one other bytes))

pub before-nil : (found : Option (List ℕ)) → before [] found ≡ found
before-nil None = refl
before-nil (Some bytes) = refl

-- what a text gives is what its first piece gives, before what is behind that
pub one_piece : (c : ℕ) (text : List ℕ) (piece : Piece) → piece_at c text ≡ Some piece
    → unquoted (c ∷ text) ≡ before (bytes_of piece.0) (unquoted (drop piece.1 text))
one_piece c text piece is =
    ap (option_and_then (λ (p : Piece). before (bytes_of p.0) (unquoted_behind p.1 text))) is
    ∙ ap (before (bytes_of piece.0)) (unquoted-drop piece.1 text)

-- behind bytes that were found, a text gives what its first piece gives, before what is behind that
pub one_more : (bytes rest text : List ℕ) (c : ℕ) (behind : List ℕ) (piece : Piece) → rest ≡ c ∷ behind → piece_at c behind ≡ Some piece
    → before bytes (unquoted rest) ≡ unquoted text → before (bytes ++ bytes_of piece.0) (unquoted (drop piece.1 behind)) ≡ unquoted text
one_more bytes rest text c behind piece split is so_far =
    sym (before-before bytes (bytes_of piece.0) (unquoted (drop piece.1 behind)))
    ∙ ap (before bytes) (sym (one_piece c behind piece is) ∙ ap unquoted (sym split))
    ∙ so_far

-- where no piece begins, nothing is found
pub no_piece : (bytes rest text : List ℕ) (c : ℕ) (behind : List ℕ) → rest ≡ c ∷ behind → piece_at c behind ≡ None
    → before bytes (unquoted rest) ≡ unquoted text → None ≡ unquoted text
no_piece bytes rest text c behind split is so_far =
    sym (ap (λ t. before bytes (unquoted t)) split ∙ ap (λ p. before bytes (option_and_then (λ (p : Piece). before (bytes_of p.0) (unquoted_behind p.1 behind)) p)) is)
    ∙ so_far

pub at_end : (bytes rest text : List ℕ) → rest ≡ [] → before bytes (unquoted rest) ≡ unquoted text → Some bytes ≡ unquoted text
at_end bytes rest text none so_far = sym (ap (λ t. before bytes (unquoted t)) none ∙ ap (λ t. Some t) (append-nil bytes)) ∙ so_far
