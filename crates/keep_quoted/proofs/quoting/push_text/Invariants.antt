use Rattle.std.proofs.Common.{◌≡◌, ◌++◌, string_bytes}
use Rattle.std.specs.Str.{IsUtf8}
use Rattle.std.specs.Str.Iter.{chars_rest}
use Rattle.keep_quoted.specs.Quote.{text_quoted}
use Rattle.keep_quoted.proofs.quoting.push_text.Given as goal

-- what is left is a text, and its quoted text is what is left to write
abbrev pub invariant-loop-letter : goal.invariant-loop-letter
invariant-loop-letter l =
    IsUtf8 (chars_rest l.letter-iterator)
    × (string_bytes l.text ++ text_quoted (chars_rest l.letter-iterator) ≡ string_bytes l.initial.text ++ text_quoted l.more)
