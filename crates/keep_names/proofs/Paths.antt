-- How the folder of a pack prints.
use Rattle.std.proofs.Common.{◌≡◌, ℕ, ◌<◌, ◌/◌, ◌%◌, ◌-◌, ◌^◌, false, ◌==◌, List, [], ◌∷◌, take, slice_index, length, slice_index_or, ap, ◌∙◌, refl, arith}
use Rattle.std.proofs.lemmas.Fmt.{hex_byte}
use Rattle.std.proofs.lemmas.Bool.{eqb-true}
use Rattle.std.specs.Fmt.{digit_glyph, digits, format_spec, padded_integral}
use Rattle.hex.specs.Hex.{IsBytes, encode_lower, encode_with, lower_digits}
use Rattle.keep_names.proofs.HexText.{each_below-at}

-- a printed digit is the table's
glyph-lower_digits : (d : ℕ) → d < 16 → digit_glyph false d ≡ slice_index lower_digits d
glyph-lower_digits d lt =
    eqb-true (digit_glyph false d) (slice_index lower_digits d)
    (each_below-at (λ k. digit_glyph false k == slice_index lower_digits k) 16 d refl lt)

-- `{:02x}` of the first byte writes the first two digits
pub first_byte-take : (bytes : List ℕ) → 0 < length bytes → IsBytes bytes
    → padded_integral (format_spec 32 0 4 2 (2 ^ 64 - 1)) false [] (digits 16 false (slice_index_or bytes 0 0)) ≡ take 2 (encode_lower bytes)
unfolding encode_with
first_byte-take [] more h = absurd (omega arith)
first_byte-take (b ∷ rest) more h =
    let fits : b < 256 = h 0 in
    hex_byte false b fits
    ∙ ap (λ c. c ∷ digit_glyph false (b % 16) ∷ []) (glyph-lower_digits (b / 16) (omega arith))
    ∙ ap (λ c. slice_index lower_digits (b / 16) ∷ c ∷ []) (glyph-lower_digits (b % 16) (omega arith))
