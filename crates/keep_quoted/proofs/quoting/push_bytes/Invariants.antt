use Rattle.std.proofs.Common.{◌≡◌, ◌++◌, drop, string_bytes}
use Rattle.keep_quoted.specs.Quote.{bytes_quoted}
use Rattle.keep_quoted.proofs.quoting.push_bytes.Given as goal

abbrev pub invariant-loop-byte : goal.invariant-loop-byte
invariant-loop-byte l = string_bytes l.text ++ bytes_quoted (drop l.byte-index l.more) ≡ string_bytes l.initial.text ++ bytes_quoted l.more
