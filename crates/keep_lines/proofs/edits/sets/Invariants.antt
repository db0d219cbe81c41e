use Rattle.std.proofs.Common.{◌≡◌, drop}
use Rattle.std.specs.List.{list_any}
use Rattle.keep_lines.specs.Edits.{is_set}
use Rattle.keep_lines.proofs.edits.sets.Given as goal

abbrev pub invariant-loop-word : goal.invariant-loop-word
invariant-loop-word l = list_any is_set (drop l.word-index l.words) ≡ list_any is_set l.words
