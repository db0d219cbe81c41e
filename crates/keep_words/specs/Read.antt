-- What the words give an argument, and what a reading of them answers.
use Rattle.std.specs.Prelude.{◌≡◌, ◌⊎◌, ◌||◌, nat_lt, ℕ, Bool, false, List, [], Option, Some, None, Result, Ok, Err, codes, if◌then◌else◌, option_and_then, option_map, unwrap_or}
use Rattle.std.specs.Borrow.{Bor}
use Rattle.std.specs.Option.{option_map_or}
use Rattle.std.specs.Str.{bytes_eq}
use Rattle.std.specs.Str.Parse.{digits_value, without_leading_plus}
use Rattle.clap.specs.ValueTests.{is_unsigned_in}
use Rattle.clap.specs.Words.{Row, Text, all_of, first_of, found_of, kind_of, one_of, rows_of}
use Rattle.clap.specs.declared.error.Error.{Error}
use Rattle.clap.specs.declared.error.kind.ErrorKind.{ErrorKind}
use Rattle.clap.specs.declared.error.kind.ErrorKind.TheVariants.{OutOfMemory}
use Rattle.clap.specs.declared.parser.matches.ArgMatches.{ArgMatches}

-- what a command's words give its arguments
abbrev pub rows_in : ArgMatches → List Row
rows_in matches = rows_of (found_of matches)

-- the text behind a word that may be there
abbrev pub text_of : Option (Bor Text) → Option Text
text_of = option_map (λ text. text.now)

-- the text that an argument is given; that of an argument that has to be there is never empty
abbrev pub place_of : Text → List Row → Text
place_of id rows = unwrap_or (first_of id rows) []

-- all texts that an argument is given
abbrev pub texts_of : Text → List Row → List Text
texts_of id rows = unwrap_or (all_of id rows) []

-- the flag is given
abbrev pub has_flag : Text → List Row → Bool
has_flag id rows = option_map_or (λ text. bytes_eq text (codes "true")) (one_of id rows) false

-- the number that a text writes, if it is one of 64 bits: decimal digits, a plus in front or not
abbrev pub number_in : Text → Option ℕ
number_in text =
    if is_unsigned_in 0 18446744073709551615 text then Some (digits_value 10 (without_leading_plus text)) else None

-- the number that an argument is given
abbrev pub number_of : Text → List Row → Option ℕ
number_of id rows = option_and_then number_in (one_of id rows)

-- a number from 1 to 1,048,576
abbrev pub counting : ℕ → Option ℕ
counting number = if nat_lt number 1 || nat_lt 1048576 number then None else Some number

-- the number, from 1 to 1,048,576, where it counts snapshots or events
abbrev pub count_of : Text → List Row → Option ℕ
count_of id rows = option_and_then counting (number_of id rows)

-- a reading of words that answers a value of which this is said; or the kind of what is at fault; or want of memory
abbrev pub Reads : {T : Type 0} → Option ErrorKind → (T → Type 0) → Result T Error → Type 0
Reads fault Says (Ok value) = Says value
Reads fault Says (Err error) = (kind_of error ≡ OutOfMemory) ⊎ (fault ≡ Some (kind_of error))
