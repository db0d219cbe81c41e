use Rattle.std.proofs.Common.{ℕ, List, [], Err, sym, ap, ◌∙◌}
use Rattle.std.proofs.KnownBytes.{Appends-nil}
use Rattle.std.proofs.lemmas.Result.{err_from_is_err_and}
use Rattle.keep_answers.proofs.KnownLemmas.{Puts-failed, WritesLines-trans}
use Rattle.keep_answers.specs.Text.{numbers_answer, stop_answer, taken_answer}
use Rattle.keep_answers.proofs.reply_text.write_taken.Goals as goal

pub returns-in_err-write_numbers-clause-puts : goal.returns-in_err-write_numbers-clause-puts
returns-in_err-write_numbers-clause-puts g c =
    let passed = err_from_is_err_and c.from_residual.result c.from_residual.ensures.1 in
    let whole = ap (λ (numbers : List ℕ). taken_answer numbers c.args.taken.stopped) (sym c.as_slice.ensures.value) in
    Puts-failed _ _ _ _ [] (numbers_answer c.as_slice.result.now) (stop_answer c.args.taken.stopped) c.in_err-write_numbers.field-0.0 _ whole (Appends-nil _) c.in_err-write_numbers.ensures.puts (passed.1 ∙ ap Err passed.2)

pub returns-clause-whole : goal.returns-clause-whole
returns-clause-whole g c = λ failed. WritesLines-trans _ _ _ (c.in_ok-write_numbers.ensures.whole (λ e. cc e)) (c.write_stop.ensures.whole failed)
