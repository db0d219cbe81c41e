use Rattle.std.proofs.Common.{◌∙◌, ◌*◌, sym, ap}
use Rattle.std.specs.Prelude.{option_and_then}
use Rattle.keep_words.specs.Span.{fitting}
use Rattle.keep_words.proofs.NumberLemmas.{number-parsed}
use Rattle.keep_words.proofs.SpanLemmas.{fits}
use Rattle.keep_words.proofs.span.seconds.Goals as goal

pub returns-in_err-number : goal.returns-in_err-number
returns-in_err-number c =
    let read = number-parsed c.args.digits.now c.parse.result c.parse.ensures.value.0 ∙ sym c.ok.ensures.value ∙ c.in_err-number.was in
    c.from_residual.ensures ∙ sym (ap (option_and_then (λ number. fitting (number * c.args.unit))) read)

pub returns : goal.returns
returns c =
    let read = number-parsed c.args.digits.now c.parse.result c.parse.ensures.value.0 ∙ sym c.ok.ensures.value ∙ c.in_ok-number.was in
    fits (c.in_ok-number.number * c.args.unit) c.checked_mul.result c.checked_mul.ensures
    ∙ sym (ap (option_and_then (λ number. fitting (number * c.args.unit))) read)
