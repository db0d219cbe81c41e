use Rattle.std.proofs.Common.{sym, ◌∙◌}
use Rattle.keep_names.proofs.Numbers.{HasPlainFront-decimal, number-parsed}
use Rattle.keep_names.proofs.number.parse_number.Goals as goal

pub returns-then-not-has_plain_front : goal.returns-then-not-has_plain_front
returns-then-not-has_plain_front c = λ n small e.
    let front = HasPlainFront-decimal n c.args.digits.now small e in
    cc (sym c.if-not-has_plain_front.true ∙ c.has_plain_front.ensures.1 front)

pub returns : goal.returns
returns c =
    let front = c.has_plain_front.ensures.0 c.if-not-has_plain_front.false in
    rw c.ok.ensures.value (number-parsed c.args.digits.now c.parse.result c.parse.ensures.value.0 front)
