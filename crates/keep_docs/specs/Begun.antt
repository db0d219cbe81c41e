-- With which bytes a JSON text may begin (RFC 8259, sections 2 and 3).
use Rattle.std.specs.Prelude.{ℕ, Bool, ◌||◌, ◌==◌}
use Rattle.std.specs.Char.{is_ascii_digit}
use Rattle.json.specs.Ascii as ascii
use Rattle.json.specs.Word.{is_space}

-- a sign or a digit
abbrev pub begins_number : ℕ → Bool
begins_number x = (x == ascii.minus) || is_ascii_digit x

-- true, false or null
abbrev pub begins_literal : ℕ → Bool
begins_literal x = (x == ascii.lower_t) || ((x == ascii.lower_f) || (x == ascii.lower_n))

-- a number, a literal, or a text, an array or an object
abbrev pub begins_value : ℕ → Bool
begins_value x =
    begins_number x || (begins_literal x
    || ((x == ascii.quote) || ((x == ascii.open_bracket) || (x == ascii.open_brace))))

-- white space, or a value
abbrev pub begins_text : ℕ → Bool
begins_text x = is_space x || begins_value x
