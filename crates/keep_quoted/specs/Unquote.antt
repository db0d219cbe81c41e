-- The reverse: what Go's strconv.Unquote makes of a text in double quotes (The Go Programming Language Specification,
-- "String literals").
use Rattle.std.specs.Prelude.{ℕ, zero, suc, ◌+◌, ◌*◌, ◌==◌, ◌||◌, nat_lt, List, [], ◌∷◌, ◌++◌, length, take, encode_utf8, find, Option, None, Some, option_map, option_and_then, if◌then◌else◌}
use Rattle.std.specs.Char.{digit_value}
use Rattle.std.proofs.Math.Utf8.{scalar}
use Rattle.keep_quoted.specs.Quote.{names}
use Rattle.keep_quoted.specs.declared.piece.Meaning.{Meaning}
use Rattle.keep_quoted.specs.declared.piece.Meaning.TheVariants.{Byte, Letter}

-- the bytes that a piece of a text stands for
abbrev pub bytes_of : Meaning → List ℕ
bytes_of (Byte b) = b ∷ []
bytes_of (Letter c) = encode_utf8 c

-- a piece: what it stands for, and how many more bytes it has than its first
abbrev pub Piece : Type 0
Piece = Meaning × ℕ

-- ---- numbers

-- the number that digits write, the highest first, behind a number so far
abbrev pub number_in : ℕ → ℕ → List ℕ → Option ℕ
number_in base value [] = Some value
number_in base value (d ∷ ds) =
    if nat_lt (digit_value d) base then number_in base (value * base + digit_value d) ds else None

-- the number that so many digits write with which a text begins
abbrev pub front_number : ℕ → ℕ → List ℕ → Option ℕ
front_number base count text = if nat_lt (length text) count then None else number_in base 0 (take count text)

-- ---- pieces

-- a byte by its number
abbrev pub byte_piece : ℕ → ℕ → Option Piece
byte_piece more n = if nat_lt n 256 then Some (Byte n, more) else None

-- a character by its number, if there is one
abbrev pub letter_piece : ℕ → ℕ → Option Piece
letter_piece more n = if scalar n then Some (Letter n, more) else None

-- the byte whose name a letter is
abbrev pub named_byte : ℕ → Option ℕ
named_byte letter = option_map (λ name. name.0) (find (λ name. name.1 == letter) names)

abbrev pub named_piece : ℕ → Option Piece
named_piece letter = option_map (λ b. (Byte b, 1)) (named_byte letter)

-- what stands behind a backslash: `x` and two hex digits, `u` and four, `U` and eight, three octal digits, or a letter
abbrev pub escape_piece : List ℕ → Option Piece
escape_piece [] = None
escape_piece (c ∷ text) =
    if c == 120 then option_and_then (byte_piece 3) (front_number 16 2 text)
    else (if c == 117 then option_and_then (letter_piece 5) (front_number 16 4 text)
    else (if c == 85 then option_and_then (letter_piece 9) (front_number 16 8 text)
    else (if nat_lt (digit_value c) 8 then option_and_then (byte_piece 3) (front_number 8 3 (c ∷ text))
    else named_piece c)))

-- the piece that begins with a byte; neither a quote nor a line end stands without a backslash
abbrev pub piece_at : ℕ → List ℕ → Option Piece
piece_at c text =
    if c == 92 then escape_piece text else (if c == 34 || c == 10 then None else Some (Byte c, 0))

-- ---- the whole

-- the bytes of a text behind the bytes that its first piece still has
abbrev pub unquoted_behind : ℕ → List ℕ → Option (List ℕ)
unquoted_behind more [] = Some []
unquoted_behind (suc more) (c ∷ text) = unquoted_behind more text
unquoted_behind zero (c ∷ text) =
    option_and_then (λ piece. option_map (λ bytes. bytes_of piece.0 ++ bytes) (unquoted_behind piece.1 text)) (piece_at c text)

-- the bytes that a text stands for, if it is made of pieces
abbrev pub unquoted : List ℕ → Option (List ℕ)
unquoted = unquoted_behind 0
