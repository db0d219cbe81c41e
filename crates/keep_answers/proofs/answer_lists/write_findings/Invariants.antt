use Rattle.keep_answers.proofs.ListLines.{Written}
use Rattle.keep_answers.specs.Known.{WritesLines}
use Rattle.keep_answers.specs.Text.{finding_line}
use Rattle.keep_answers.proofs.answer_lists.write_findings.Given as goal

abbrev pub invariant-loop-finding : goal.invariant-loop-finding
invariant-loop-finding g l = record {
  so_far : Written finding_line l.findings l.finding-index (g.W.Write.contents l.initial.writer) (g.W.Write.contents l.writer);
  whole : WritesLines (g.W.Write.contents l.initial.writer) (g.W.Write.contents l.writer);
}
