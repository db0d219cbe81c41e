-- The words of what keeps a shelf from being opened.
use Rattle.std.specs.Prelude.{ℕ, List, ◌++◌, codes}
use Rattle.std.specs.Fmt.{decimal}
use Rattle.keep_opening.specs.declared.open_error.OpenError.{OpenError}
use Rattle.keep_opening.specs.declared.open_error.OpenError.TheVariants.{BadEntry, Fault, Memory}

-- how it prints: its word, and its value where it has one
abbrev pub open_error_text : OpenError → List ℕ
open_error_text (BadEntry n) = codes "BadEntry " ++ decimal n
open_error_text Fault = codes "Fault"
open_error_text Memory = codes "Memory"
