-- What is at fault with words that clap takes.
use Rattle.std.specs.Prelude.{◌||◌, not, true, false, ℕ, Bool, List, Option, Some, None, codes, if◌then◌else◌, is_some}
use Rattle.std.specs.Option.{option_map_or}
use Rattle.std.specs.Str.{bytes_eq}
use Rattle.clap.specs.Walk.{is_empty}
use Rattle.clap.specs.Words.{Row, Text, first_of}
use Rattle.clap.specs.declared.error.kind.ErrorKind.{ErrorKind}
use Rattle.clap.specs.declared.error.kind.ErrorKind.TheVariants.{ArgumentConflict, MissingRequiredArgument, ValueValidation}
use Rattle.keep_words.specs.Read.{count_of, has_flag, texts_of}
use Rattle.keep_words.specs.Span.{span_in}

-- the argument is given some text
abbrev pub has_texts : Text → List Row → Bool
has_texts id rows = not (is_empty (texts_of id rows))

-- the words of a forget keep something
abbrev pub keeps_some : List Row → Bool
keeps_some rows =
    is_some (count_of (codes "keep-last") rows) || is_some (count_of (codes "keep-daily") rows)
    || is_some (count_of (codes "keep-weekly") rows) || is_some (count_of (codes "keep-monthly") rows)
    || is_some (count_of (codes "keep-yearly") rows) || has_texts (codes "keep-tag") rows

-- a forget that would keep nothing lacks a --keep option
abbrev pub forget_fault : List Row → Option ErrorKind
forget_fault rows = if keeps_some rows then None else Some MissingRequiredArgument

-- one of two has to stand, and not both
abbrev pub one_of_two : Bool → Bool → Option ErrorKind
one_of_two true true = Some ArgumentConflict
one_of_two false false = Some MissingRequiredArgument
one_of_two _ _ = None

-- a tagging is of one snapshot or of all
abbrev pub aim_fault : List Row → Option ErrorKind
aim_fault rows = one_of_two (is_some (first_of (codes "SNAP") rows)) (has_flag (codes "all") rows)

-- it sets tags, or adds and takes some away
abbrev pub edit_fault : List Row → Option ErrorKind
edit_fault rows = one_of_two (has_texts (codes "set") rows) (has_texts (codes "add") rows || has_texts (codes "remove") rows)

-- the first of two faults
abbrev pub or_fault : Option ErrorKind → Option ErrorKind → Option ErrorKind
or_fault (Some kind) other = Some kind
or_fault None other = other

abbrev pub tag_fault : List Row → Option ErrorKind
tag_fault rows = or_fault (aim_fault rows) (edit_fault rows)

-- the seconds of --older-than, 0 where it isn't given, and none where it is no span
abbrev pub wait_in : List Row → Option ℕ
wait_in rows = option_map_or span_in (first_of (codes "older-than") rows) (Some 0)

abbrev pub wait_fault : List Row → Option ErrorKind
wait_fault rows = if is_some (wait_in rows) then None else Some ValueValidation

-- what is at fault with the words of the command of this name
abbrev pub fault_in : Text → List Row → Option ErrorKind
fault_in name rows =
    if bytes_eq name (codes "forget") then forget_fault rows
    else if bytes_eq name (codes "tag") then tag_fault rows
    else if bytes_eq name (codes "sweep") || bytes_eq name (codes "prune") then wait_fault rows
    else None
