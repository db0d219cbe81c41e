use Rattle.std.proofs.Common.{◌≡◌, take, string_bytes}
use Rattle.keep_graph.specs.Dot.{quoted_chars}
use Rattle.keep_graph.proofs.dot.quoted_letters.Given as goal

abbrev pub invariant-loop-letter : goal.invariant-loop-letter
invariant-loop-letter l = string_bytes l.made ≡ quoted_chars (take l.letter-index l.letters)
