use Rattle.std.proofs.Common.{[], List, Err, sym, ap, subst, ◌∙◌, append-nil, refl}
use Rattle.std.proofs.lemmas.Result.{err_from_is_err_and}
use Rattle.std.specs.List.{flat_map}
use Rattle.std.specs.Io.KnownBytes.{Appends}
use Rattle.keep_journal.specs.declared.event.Notice.{Notice}
use Rattle.std.proofs.KnownBytes.{Appends-nil}
use Rattle.keep_answers.proofs.KnownLemmas.{WritesLines-none, WritesLines-trans}
use Rattle.keep_answers.proofs.ListLines.{Written-all, Written-failed, Written-more}
use Rattle.keep_answers.specs.Text.{event_line}
use Rattle.keep_answers.proofs.answer_lists.write_history.Goals as goal

pub returns-in_err-write_event-clause-puts : goal.returns-in_err-write_event-clause-puts
returns-in_err-write_event-clause-puts g c =
    let passed = err_from_is_err_and c.from_residual.result c.from_residual.ensures.1 in
    let notices = c.notices-notice-items.result.now in
    let all = ap (flat_map event_line) (sym c.notices-notice-items.ensures.exact) ∙ sym (append-nil (flat_map event_line notices)) in
    Written-failed event_line notices c.loop-notice.notice-index _ _ _ [] _ _ _ c.in_err-write_event.field-0.0 _ c.loop-notice-test.true refl all c.loop-notice.invariant.so_far c.in_err-write_event.ensures.puts (passed.1 ∙ ap Err passed.2)

pub loop-notice-preserved : goal.loop-notice-preserved
loop-notice-preserved g c = record {
  so_far = Written-more event_line c.notices-notice-items.result.now c.loop-notice.notice-index _ _ _ _ _ c.loop-notice-test.true refl c.loop-notice.invariant.so_far c.in_ok-write_event.ensures.puts;
  whole = WritesLines-trans _ _ _ c.loop-notice.invariant.whole (c.in_ok-write_event.ensures.whole (λ e. cc e));
}

pub returns-clause-puts : goal.returns-clause-puts
returns-clause-puts g c =
    subst (λ (es : List Notice). Appends (g.W.Write.contents c.args.writer.now) (g.W.Write.contents c.loop-notice.writer) (flat_map event_line es)) c.notices-notice-items.ensures.exact
    (Written-all event_line c.notices-notice-items.result.now c.loop-notice.notice-index _ _ c.loop-notice-test.false c.loop-notice.invariant.so_far)

pub loop-notice-init : goal.loop-notice-init
loop-notice-init g c = record { so_far = Appends-nil _; whole = WritesLines-none _ }

pub returns-in_err-write_event-clause-whole : goal.returns-in_err-write_event-clause-whole
returns-in_err-write_event-clause-whole g c = λ failed.
    let passed = err_from_is_err_and c.from_residual.result c.from_residual.ensures.1 in
    WritesLines-trans _ _ _ c.loop-notice.invariant.whole (c.in_err-write_event.ensures.whole (λ e. failed (passed.1 ∙ ap Err passed.2 ∙ e)))

pub returns-clause-whole : goal.returns-clause-whole
returns-clause-whole g c = λ failed. c.loop-notice.invariant.whole
