-- What is printed of bytes that are no entry.
use Rattle.std.specs.Prelude.{ℕ, List, ◌++◌, codes}
use Rattle.std.specs.Fmt.{decimal}
use Rattle.keep_entries.specs.declared.entry_error.EntryError.{EntryError}
use Rattle.keep_entries.specs.declared.entry_error.EntryError.TheVariants.{BadEntry, Memory}

-- the word, and the number that the entry should have
abbrev pub refusal_text : EntryError → List ℕ
refusal_text (BadEntry k) = codes "BadEntry " ++ decimal k
refusal_text Memory = codes "Memory"
