use Rattle.keep_answers.proofs.ListLines.{Written}
use Rattle.keep_answers.specs.Known.{WritesLines}
use Rattle.keep_answers.specs.Text.{event_line}
use Rattle.keep_answers.proofs.answer_lists.write_history.Given as goal

abbrev pub invariant-loop-notice : goal.invariant-loop-notice
invariant-loop-notice g l = record {
  so_far : Written event_line l.notice-items l.notice-index (g.W.Write.contents l.initial.writer) (g.W.Write.contents l.writer);
  whole : WritesLines (g.W.Write.contents l.initial.writer) (g.W.Write.contents l.writer);
}
