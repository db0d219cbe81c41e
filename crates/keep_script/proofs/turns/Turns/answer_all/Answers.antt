use Rattle.std.proofs.Common.{Err, Ok, ap, arith}
use Rattle.keep_script.proofs.CountLemmas.{Counted-long, Counted-more, Counted-none, Counted-whole, StopsAt-end, StopsAt-long, StopsAt-write}
use Rattle.keep_script.specs.Line.{ended}
use Rattle.keep_answers.proofs.KnownLemmas.{WritesLines-none, WritesLines-trans}
use Rattle.keep_script.proofs.LineLemmas.{IsAtEnd-read}
use Rattle.keep_script.proofs.RunLemmas.{Ends-end, Ends-stop, Progress-more, Progress-none}
use Rattle.keep_script.specs.Input.{left_of, unread_of}
use Rattle.keep_script.proofs.turns.Turns.answer_all.Goals as goal

pub loop-number-init : goal.loop-number-init
loop-number-init g c = record { so_far = Progress-none _ _ _; sums = c.requires.sums; whole = WritesLines-none _; counted = Counted-none _ _; enough = omega (arith, c.requires.ahead) }

pub returns-in-Ok-false-clause-answers : goal.returns-in-Ok-false-clause-answers
returns-in-Ok-false-clause-answers g c =
    let h = rw c.in-Ok-false.field-0-test at c.in-Ok-false.ensures.answers in
    rw (c.at_end.ensures, c.is_faulted.ensures) (Ends-end _ _ _ _ _ _ _ _ _ _ c.loop-number.number h.2.0 h.0 c.loop-number.invariant.so_far h.2.1 h.2.2 h.2.3
    (IsAtEnd-read (unread_of c.answer_next.new.self.input) _ h.2.3) h.2.4 h.1)

pub returns-in-Err-clause-answers : goal.returns-in-Err-clause-answers
returns-in-Err-clause-answers g c =
    Ends-stop _ _ (left_of c.answer_next.new.self.input (g.R.Read.remaining c.answer_next.new.reader)) _ _ _ _ _ _ _ _ c.loop-number.number c.in-Err.stop _ c.loop-number.invariant.so_far c.in-Err.ensures.answers c.stop_at.ensures.stops

pub returns-in-Err-clause-limit : goal.returns-in-Err-clause-limit
returns-in-Err-clause-limit g c end = absurd (StopsAt-end _ _ c.loop-number.number c.in-Err.stop _ c.stop_at.ensures.stops end)

pub returns-in-Err-clause-past_limit : goal.returns-in-Err-clause-past_limit
returns-in-Err-clause-past_limit g c long =
    let cause = StopsAt-long _ _ c.loop-number.number c.in-Err.stop (rw long at c.stop_at.ensures.stops) in
    let so_far = c.loop-number.invariant.so_far in
    rw (← c.requires.ahead) (Counted-long _ _ _ _ (ended so_far.lines) so_far.read c.loop-number.invariant.counted (c.in-Err.ensures.past_limit (ap Err cause)))

pub returns-in-Ok-false-clause-limit : goal.returns-in-Ok-false-clause-limit
returns-in-Ok-false-clause-limit g c _ =
    let h = rw c.in-Ok-false.field-0-test at c.in-Ok-false.ensures.answers in
    let so_far = c.loop-number.invariant.so_far in
    Counted-whole _ _ _ _ _ _ (ended so_far.lines) h.2.0 so_far.read h.2.2 c.loop-number.invariant.counted c.in-Ok-false.ensures.counted h.2.3
    (c.in-Ok-false.ensures.more (ap Ok c.in-Ok-false.field-0-test)) (omega (arith, c.requires.ahead))

pub loop-number-preserved : goal.loop-number-preserved
loop-number-preserved g c =
    let h = rw c.in-Ok-true.field-0-test at c.in-Ok-true.ensures.answers in
    let less = c.in-Ok-true.ensures.spent (ap Ok c.in-Ok-true.field-0-test) in
    record {
      so_far = Progress-more _ _ _ _ _ _ _ _ _ c.loop-number.number h.2.0 h.0 c.loop-number.invariant.so_far h.2.1 h.2.2 h.2.3 h.1;
      whole = WritesLines-trans _ _ _ c.loop-number.invariant.whole (c.in-Ok-true.ensures.whole (λ e. cc e));
      counted = Counted-more _ _ _ _ _ _ (ended c.loop-number.invariant.so_far.lines) c.loop-number.invariant.so_far.read c.loop-number.invariant.counted c.in-Ok-true.ensures.counted;
      enough = omega (arith, less, c.loop-number.invariant.enough);
      sums = c.in-Ok-true.ensures.sums;
    }

pub returns-in-Ok-false-clause-whole : goal.returns-in-Ok-false-clause-whole
returns-in-Ok-false-clause-whole g c = λ failed. WritesLines-trans _ _ _ c.loop-number.invariant.whole (c.in-Ok-false.ensures.whole (λ e. cc e))

pub returns-in-Err-clause-whole : goal.returns-in-Err-clause-whole
returns-in-Err-clause-whole g c = λ failed.
    let wrote = c.in-Err.ensures.whole (λ e. failed (StopsAt-write _ _ c.loop-number.number c.in-Err.stop _ c.stop_at.ensures.stops (cc e))) in
    WritesLines-trans _ _ _ c.loop-number.invariant.whole (WritesLines-trans _ _ _ wrote (c.stop_at.ensures.whole failed))
