use Rattle.std.proofs.Common.{◌≡◌, drop}
use Rattle.std.specs.List.{list_any}
use Rattle.keep_lines.specs.Edits.{moves}
use Rattle.keep_lines.proofs.edits.moves.Given as goal

abbrev pub invariant-loop-word : goal.invariant-loop-word
invariant-loop-word l = list_any moves (drop l.word-index l.words) ≡ list_any moves l.words
