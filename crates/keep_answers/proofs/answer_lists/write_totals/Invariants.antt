use Rattle.keep_hooks.specs.Rules.{tally_of}
use Rattle.keep_answers.proofs.ListLines.{Written}
use Rattle.keep_answers.specs.Known.{WritesLines}
use Rattle.keep_answers.specs.Text.{total_line}
use Rattle.keep_answers.proofs.answer_lists.write_totals.Given as goal

abbrev pub invariant-loop-watch : goal.invariant-loop-watch
invariant-loop-watch g l = record {
  so_far : Written (λ watch. total_line (tally_of watch)) l.watches l.watch-index (g.W.Write.contents l.initial.writer) (g.W.Write.contents l.writer);
  whole : WritesLines (g.W.Write.contents l.initial.writer) (g.W.Write.contents l.writer);
}
