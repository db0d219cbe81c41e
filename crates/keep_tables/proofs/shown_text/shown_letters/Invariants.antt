use Rattle.std.proofs.Common.{◌≡◌, take, string_bytes}
use Rattle.keep_tables.specs.Shown.{shown_chars}
use Rattle.keep_tables.proofs.shown_text.shown_letters.Given as goal

abbrev pub invariant-loop-letter : goal.invariant-loop-letter
invariant-loop-letter l = string_bytes l.made ≡ shown_chars (take l.letter-index l.letters)
