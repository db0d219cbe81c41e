use Rattle.std.proofs.Common.{◌∙◌, [], Err, ap, append-nil, subst, sym}
use Rattle.std.proofs.lemmas.Result.{err_from_is_err_and}
use Rattle.std.proofs.KnownBytes.{Appends-nil}
use Rattle.std.specs.Io.KnownBytes.{Appends}
use Rattle.keep_hooks.specs.Rules.{tally_of}
use Rattle.keep_answers.proofs.KnownLemmas.{WritesLines-none, WritesLines-trans}
use Rattle.keep_answers.proofs.ListLines.{Written-all, Written-failed, Written-more, flat_map-map}
use Rattle.keep_answers.specs.Text.{total_line}
use Rattle.keep_answers.proofs.answer_lists.write_totals.Goals as goal

pub returns-in_err-write_total-clause-puts : goal.returns-in_err-write_total-clause-puts
returns-in_err-write_total-clause-puts g c =
    let passed = err_from_is_err_and c.from_residual.result c.from_residual.ensures.1 in
    let all = flat_map-map total_line tally_of c.args.watches.now ∙ sym (append-nil _) in
    Written-failed (λ watch. total_line (tally_of watch)) c.args.watches.now c.loop-watch.watch-index _ _ _ [] _ _ _ c.in_err-write_total.field-0.0 _ c.loop-watch-test.true c.watch-item.is all c.loop-watch.invariant.so_far c.in_err-write_total.ensures.puts (passed.1 ∙ ap Err passed.2)

pub loop-watch-preserved : goal.loop-watch-preserved
loop-watch-preserved g c = record {
  so_far = Written-more (λ watch. total_line (tally_of watch)) c.args.watches.now c.loop-watch.watch-index _ _ _ _ _ c.loop-watch-test.true c.watch-item.is c.loop-watch.invariant.so_far c.in_ok-write_total.ensures.puts;
  whole = WritesLines-trans _ _ _ c.loop-watch.invariant.whole (c.in_ok-write_total.ensures.whole (λ e. cc e));
}

pub returns-clause-puts : goal.returns-clause-puts
returns-clause-puts g c =
    subst (Appends (g.W.Write.contents c.args.writer.now) (g.W.Write.contents c.loop-watch.writer)) (sym (flat_map-map total_line tally_of c.args.watches.now))
    (Written-all (λ watch. total_line (tally_of watch)) c.args.watches.now c.loop-watch.watch-index _ _ c.loop-watch-test.false c.loop-watch.invariant.so_far)

pub loop-watch-init : goal.loop-watch-init
loop-watch-init g c = record { so_far = Appends-nil _; whole = WritesLines-none _ }

pub returns-in_err-write_total-clause-whole : goal.returns-in_err-write_total-clause-whole
returns-in_err-write_total-clause-whole g c = λ failed.
    let passed = err_from_is_err_and c.from_residual.result c.from_residual.ensures.1 in
    WritesLines-trans _ _ _ c.loop-watch.invariant.whole (c.in_err-write_total.ensures.whole (λ e. failed (passed.1 ∙ ap Err passed.2 ∙ e)))

pub returns-clause-whole : goal.returns-clause-whole
returns-clause-whole g c = λ failed. c.loop-watch.invariant.whole
