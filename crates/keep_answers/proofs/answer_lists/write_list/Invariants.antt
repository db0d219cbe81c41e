use Rattle.keep_answers.proofs.ListLines.{Written}
use Rattle.keep_answers.specs.Known.{WritesLines}
use Rattle.keep_answers.specs.Text.{file_line}
use Rattle.keep_answers.proofs.answer_lists.write_list.Given as goal

abbrev pub invariant-loop-name : goal.invariant-loop-name
invariant-loop-name g l = record {
  so_far : Written (file_line l.repo) l.name-items l.name-index (g.W.Write.contents l.initial.writer) (g.W.Write.contents l.writer);
  whole : WritesLines (g.W.Write.contents l.initial.writer) (g.W.Write.contents l.writer);
}
