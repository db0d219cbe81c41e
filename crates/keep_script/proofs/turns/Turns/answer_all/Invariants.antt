-- What the lines so far were answered, and enough may still be read for the number.
use Rattle.std.proofs.Common.{◌+◌, ◌≤◌}
use Rattle.keep_book.specs.Armed.{HasSums}
use Rattle.keep_jobs.specs.Kits.{kit_view}
use Rattle.keep_script.proofs.RunLemmas.{Progress}
use Rattle.keep_script.specs.Input.{Counted, ahead_of, left_of}
use Rattle.keep_answers.specs.Known.{WritesLines}
use Rattle.keep_script.specs.Line.{longest_script}
use Rattle.keep_answers.specs.State.{state_of}
use Rattle.keep_script.proofs.turns.Turns.answer_all.Given as goal

abbrev pub invariant-loop-number : goal.invariant-loop-number
invariant-loop-number g l = record {
  so_far : Progress
      (left_of l.initial.self.input (g.R.Read.remaining l.initial.reader)) (left_of l.self.input (g.R.Read.remaining l.reader))
      (g.W.Write.contents l.initial.writer) (g.W.Write.contents l.writer)
      (state_of (kit_view l.initial.kit) l.initial.self.session l.initial.book) (state_of (kit_view l.kit) l.self.session l.book) l.number;
  whole : WritesLines (g.W.Write.contents l.initial.writer) (g.W.Write.contents l.writer);
  counted : Counted
      (left_of l.initial.self.input (g.R.Read.remaining l.initial.reader)) (ahead_of l.initial.self.input)
      (left_of l.self.input (g.R.Read.remaining l.reader)) (ahead_of l.self.input);
  enough : l.number + ahead_of l.self.input ≤ 1 + longest_script;
  sums : HasSums l.book;
}
