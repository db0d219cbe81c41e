-- What reading the options answers.
use Rattle.std.specs.Prelude.{◌≡◌, ⊤, ℕ, List, Option, Some, None, Result, Ok, Err}
use Rattle.std.specs.Borrow.{Bor}
use Rattle.std.specs.Option.{option_map}
use Rattle.clap.specs.declared.error.kind.ErrorKind.{ErrorKind}
use Rattle.clap.specs.declared.error.kind.ErrorKind.TheVariants.{OutOfMemory}
use Rattle.keep_options.specs.Option.{OptionsData, options_of, options_view}
use Rattle.keep_options.specs.declared.options.Options.{Options}
use Rattle.keep_options.specs.declared.options.BadOptions.{BadOptions}
use Rattle.keep_options.specs.declared.options.BadOptions.TheVariants.{Memory, Refused}

-- the error that clap's kind of error comes to
abbrev pub refusal_of : ErrorKind → BadOptions
refusal_of OutOfMemory = Memory
refusal_of _ = Refused

-- the options that are given, a refusal just where none are, or want of memory
abbrev pub Says : Option OptionsData → Result Options BadOptions → Type 0
Says given (Ok options) = given ≡ Some (options_view options)
Says given (Err Refused) = given ≡ None
Says given (Err Memory) = ⊤

-- the folder that is given, or a refusal just where the word names none
abbrev pub IsFolderRead : Option (Option (List ℕ)) → Result (Option (Bor (List ℕ))) BadOptions → Type 0
IsFolderRead given (Ok folder) = given ≡ Some (option_map (λ text. text.now) folder)
IsFolderRead given (Err error) = (given ≡ None) × (error ≡ Refused)

-- the options that the words give, a refusal just where they give none, or want of memory
abbrev pub Reads : List (List ℕ) → Result Options BadOptions → Type 0
Reads words result = Says (options_of words) result
