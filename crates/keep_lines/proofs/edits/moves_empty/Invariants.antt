use Rattle.std.proofs.Common.{◌≡◌, drop}
use Rattle.std.specs.List.{list_any}
use Rattle.keep_lines.specs.Edits.{moves_empty}
use Rattle.keep_lines.proofs.edits.moves_empty.Given as goal

abbrev pub invariant-loop-word : goal.invariant-loop-word
invariant-loop-word l = list_any moves_empty (drop l.word-index l.words) ≡ list_any moves_empty l.words
