-- What the words of the process ask.
use Rattle.std.specs.Prelude.{◌≡◌, ◌⊎◌, ◌||◌, false, List, [], Option, Some, None, Result, Ok, Err, codes, unwrap_or}
use Rattle.clap.specs.Words.{IsAmong, Row, Text, fault_of, first_of, kind_of, matches_of, subcommand_of}
use Rattle.clap.specs.declared.error.Error.{Error}
use Rattle.clap.specs.declared.error.kind.ErrorKind.{ErrorKind}
use Rattle.clap.specs.declared.error.kind.ErrorKind.TheVariants.{InvalidSubcommand, MissingSubcommand, OutOfMemory}
use Rattle.keep_forms.specs.Keep.{keep}
use Rattle.keep_words.specs.Faults.{fault_in}
use Rattle.keep_words.specs.Read.{has_flag, number_of, text_of}
use Rattle.keep_words.specs.Said.{IsSaid, name_of}
use Rattle.keep_words.specs.declared.command.Command.{Command}
use Rattle.keep_words.specs.declared.words.Words.{Words}
use Rattle.keep_typed.specs.Names.{is_changing, is_reading}

-- the first that is there
abbrev pub or_other : {T : Type 0} → Option T → Option T → Option T
or_other (Some value) other = Some value
or_other None other = other

-- the command of this name is asked for, with what the words behind the name say
abbrev pub IsAsked : Text → List Row → Command → Type 0
IsAsked name below command = (name ≡ name_of command) × IsSaid below command

-- the value that the words before a command's name and those behind it say: of what both may say, what stands behind it
pub record IsWords (top : List Row) (name : Text) (below : List Row) (words : Words) : Type 0 where
  pub repo : text_of words.repo ≡ or_other (first_of (codes "repo") below) (first_of (codes "repo") top)
  pub json : words.json ≡ (has_flag (codes "json") below || has_flag (codes "json") top)
  pub wait : words.wait ≡ unwrap_or (or_other (number_of (codes "wait") below) (number_of (codes "wait") top)) 10
  pub command : IsAsked name below words.command

-- what is at fault with a command's words: they fit no command of the name, or there is none of it
abbrev pub IsFault : Text → List Row → ErrorKind → Type 0
IsFault name below kind =
    (fault_in name below ≡ Some kind)
    ⊎ ((is_changing name ≡ false) × (is_reading name ≡ false) × (kind ≡ InvalidSubcommand))

-- what is at fault with the words of the command that clap found, or that it found none
abbrev pub IsFaultIn : Option (Text × List Row) → ErrorKind → Type 0
IsFaultIn (Some found) kind = IsFault found.0 found.1 kind
IsFaultIn None kind = kind ≡ MissingSubcommand

abbrev pub IsWordsIn : List Row → Option (Text × List Row) → Words → Type 0
IsWordsIn top (Some found) words = IsWords top found.0 found.1 words
IsWordsIn top None words = ⊥

-- what reading a command answers: the command, what is at fault, or want of memory
abbrev pub ReadsCommand : Text → List Row → Result Command Error → Type 0
ReadsCommand name below (Ok command) = IsAsked name below command
ReadsCommand name below (Err error) = (kind_of error ≡ OutOfMemory) ⊎ IsFault name below (kind_of error)

-- what reading clap's matches answers
abbrev pub ReadsMatches : List Row → Option (Text × List Row) → Result Words Error → Type 0
ReadsMatches top found (Ok value) = IsWordsIn top found value
ReadsMatches top found (Err error) = (kind_of error ≡ OutOfMemory) ⊎ IsFaultIn found (kind_of error)

-- what reading the words answers: clap takes them and they say this; clap refuses them by one of its kinds; it takes
-- them and something is at fault; or want of memory
abbrev pub ReadsWords : List Text → Result Words Error → Type 0
ReadsWords words (Ok value) = (fault_of keep words ≡ []) × IsWordsIn (matches_of keep words) (subcommand_of keep words) value
ReadsWords words (Err error) =
    (kind_of error ≡ OutOfMemory)
    ⊎ (IsAmong (kind_of error) (fault_of keep words)
    ⊎ ((fault_of keep words ≡ []) × IsFaultIn (subcommand_of keep words) (kind_of error)))
