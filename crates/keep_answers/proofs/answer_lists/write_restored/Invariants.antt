-- What was written and the lines to come are the lines of all files.
use Rattle.std.proofs.Common.{◌≡◌, ℕ, List, ◌++◌}
use Rattle.std.specs.List.{flat_map}
use Rattle.std.specs.Io.KnownBytes.{Appends}
use Rattle.keep_answers.specs.Known.{WritesLines}
use Rattle.keep_answers.specs.Text.{restored_line}
use Rattle.keep_answers.proofs.RestoreLemmas.{pairs}
use Rattle.keep_answers.proofs.answer_lists.write_restored.Given as goal

abbrev pub invariant-loop-path : goal.invariant-loop-path
invariant-loop-path g l = record {
  so_far : (done : List ℕ) × (done ++ flat_map restored_line (pairs l.path-iterator) ≡ flat_map restored_line (pairs l.restored.files.entries))
      × Appends (g.W.Write.contents l.initial.writer) (g.W.Write.contents l.writer) done;
  whole : WritesLines (g.W.Write.contents l.initial.writer) (g.W.Write.contents l.writer);
}
