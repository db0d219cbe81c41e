use Rattle.std.proofs.Common.{◌≡◌, ◌==◌, ◌<◌, [], Err, false, length, vec_len, sym, ap, ◌∙◌, arith}
use Rattle.std.proofs.KnownBytes.{Appends-trans}
use Rattle.std.proofs.lemmas.Bool.Decides.{nat_tests}
use Rattle.std.proofs.lemmas.Result.{err_from_is_err_and}
use Rattle.keep_script.proofs.CountLemmas.{Counted-piece}
use Rattle.keep_answers.proofs.KnownLemmas.{WritesLines-after}
use Rattle.keep_script.proofs.LineLemmas.{Starts-ended, Starts-last}
use Rattle.keep_script.proofs.StepLemmas.{AnswersLast-some, AnswersNext-failed, AnswersNext-unread, Appends-none}
use Rattle.keep_answers.specs.declared.halt.Halt.TheVariants as halted
use Rattle.keep_script.specs.Status.{stop_of}
use Rattle.keep_script.proofs.turns.Turns.answer_next.Goals as goal

pub returns-in_err-line-clause-answers : goal.returns-in_err-line-clause-answers
returns-in_err-line-clause-answers g c =
    let passed = err_from_is_err_and c.from_residual.result c.from_residual.ensures.1 in
    AnswersNext-unread _ _ _ _ _ _ c.in_err-line.field-0.0 _ c.in_err-line.ensures.quiet (λ why e. c.in_err-line.ensures.too_long why (ap Err e)) c.in_err-line.ensures.failed (λ e. c.in_err-line.ensures.told (ap Err e)) (passed.1 ∙ ap Err passed.2)

pub returns-in_err-answer_line-in-Line-clause-answers : goal.returns-in_err-answer_line-in-Line-clause-answers
returns-in_err-answer_line-in-Line-clause-answers g c =
    let passed = err_from_is_err_and c.from_residual-in_err-answer_line-in-Line.result c.from_residual-in_err-answer_line-in-Line.ensures.1 in
    let taken = rw c.in-Line.is at c.in_ok-line.ensures.taken in
    let start = Starts-ended _ _ c.in-Line.line.items taken.0 taken.1 in
    AnswersNext-failed _ _ _ _ _ c.as_slice.result.now _ _ _ c.in_err-answer_line-in-Line.field-0.0 _ _ c.next_line.ensures.quiet (rw c.as_slice.ensures.value start) c.in_err-answer_line-in-Line.ensures.answers passed.2 passed.1

pub returns-in_ok-answer_line-in-Line-clause-answers : goal.returns-in_ok-answer_line-in-Line-clause-answers
returns-in_ok-answer_line-in-Line-clause-answers g c =
    let taken = rw c.in-Line.is at c.in_ok-line.ensures.taken in
    let h = c.in_ok-answer_line-in-Line.ensures.answers in
    let wrote = Appends-trans _ _ _ [] h.0 (Appends-none _ _ c.next_line.ensures.quiet) h.1 in
    let answer = rw c.as_slice.ensures.value at h.2 in
    (h.0, wrote, (c.in-Line.line.items, taken.0, taken.1, answer))

pub returns-in_err-answer_line-in-Last-2-clause-answers : goal.returns-in_err-answer_line-in-Last-2-clause-answers
returns-in_err-answer_line-in-Last-2-clause-answers g c =
    let passed = err_from_is_err_and c.from_residual-in_err-answer_line-in-Last-2.result c.from_residual-in_err-answer_line-in-Last-2.ensures.1 in
    let taken = rw c.in-Last.is at c.in_ok-line.ensures.taken in
    let known : (vec_len c.in-Last.line == 0) ≡ false = sym c.is_empty.ensures ∙ c.if-is_empty.false in
    let positive : 0 < vec_len c.in-Last.line = grind (arith, nat_tests) in
    let some : 0 < length c.in-Last.line.items = omega (arith, positive, c.in-Last.line.ok.0) in
    let start = Starts-last _ _ c.in-Last.line.items some taken.0 taken.1 taken.2 in
    AnswersNext-failed _ _ _ _ _ c.as_slice-in-Last-2.result.now _ _ _ c.in_err-answer_line-in-Last-2.field-0.0 _ _ c.next_line.ensures.quiet (rw c.as_slice-in-Last-2.ensures.value start) c.in_err-answer_line-in-Last-2.ensures.answers passed.2 passed.1

pub returns-in_ok-answer_line-in-Last-2-clause-answers : goal.returns-in_ok-answer_line-in-Last-2-clause-answers
returns-in_ok-answer_line-in-Last-2-clause-answers g c =
    let taken = rw c.in-Last.is at c.in_ok-line.ensures.taken in
    let known : (vec_len c.in-Last.line == 0) ≡ false = sym c.is_empty.ensures ∙ c.if-is_empty.false in
    let positive : 0 < vec_len c.in-Last.line = grind (arith, nat_tests) in
    let some : 0 < length c.in-Last.line.items = omega (arith, positive, c.in-Last.line.ok.0) in
    let h = c.in_ok-answer_line-in-Last-2.ensures.answers in
    let wrote = Appends-trans _ _ _ [] h.0 (Appends-none _ _ c.next_line.ensures.quiet) h.1 in
    let answer = rw c.as_slice-in-Last-2.ensures.value at h.2 in
    (h.0, wrote, (c.in-Last.line.items, taken.0, taken.1, taken.2, AnswersLast-some _ _ c.in-Last.line.items h.0 some answer))

pub returns-in_ok-answer_line-in-Line-clause-counted : goal.returns-in_ok-answer_line-in-Line-clause-counted
returns-in_ok-answer_line-in-Line-clause-counted g c = Counted-piece _ _ _ _ c.in_ok-line.field-0 c.in_ok-line.ensures.taken c.in_ok-line.ensures.spent

pub returns-in_ok-answer_line-in-Last-2-clause-counted : goal.returns-in_ok-answer_line-in-Last-2-clause-counted
returns-in_ok-answer_line-in-Last-2-clause-counted g c = Counted-piece _ _ _ _ c.in_ok-line.field-0 c.in_ok-line.ensures.taken c.in_ok-line.ensures.spent

pub returns-in_err-answer_line-in-Line-clause-whole : goal.returns-in_err-answer_line-in-Line-clause-whole
returns-in_err-answer_line-in-Line-clause-whole g c = λ failed.
    let passed = err_from_is_err_and c.from_residual-in_err-answer_line-in-Line.result c.from_residual-in_err-answer_line-in-Line.ensures.1 in
    WritesLines-after _ _ _ c.next_line.ensures.quiet (c.in_err-answer_line-in-Line.ensures.whole (λ e.
    let cause : c.in_err-answer_line-in-Line.field-0.0 ≡ halted.WriteFailed = cc e in
    failed (passed.1 ∙ ap Err (passed.2 ∙ ap stop_of cause))))

pub returns-in_err-answer_line-in-Last-2-clause-whole : goal.returns-in_err-answer_line-in-Last-2-clause-whole
returns-in_err-answer_line-in-Last-2-clause-whole g c = λ failed.
    let passed = err_from_is_err_and c.from_residual-in_err-answer_line-in-Last-2.result c.from_residual-in_err-answer_line-in-Last-2.ensures.1 in
    WritesLines-after _ _ _ c.next_line.ensures.quiet (c.in_err-answer_line-in-Last-2.ensures.whole (λ e.
    let cause : c.in_err-answer_line-in-Last-2.field-0.0 ≡ halted.WriteFailed = cc e in
    failed (passed.1 ∙ ap Err (passed.2 ∙ ap stop_of cause))))
