use Rattle.std.proofs.Common.{sym, ◌∙◌}
use Rattle.keep_lines.proofs.RuleWords.{count_parsed, no_width}
use Rattle.keep_lines.proofs.forget_line.parse_count.Goals as goal

pub returns-in_err-number-2 : goal.returns-in_err-number-2
returns-in_err-number-2 c =
    rw c.from_residual-in_err-number-2.ensures
    (no_width c.args.word.now c.in_ok-number.number c.try_from.result c.in_ok-number.ensures c.try_from.ensures (sym c.ok.ensures.value ∙ c.in_err-number-2.was))

pub returns : goal.returns
returns c =
    count_parsed c.args.word.now c.in_ok-number.number c.in_ok-number-2.number c.try_from.result c.new.result c.in_ok-number.ensures c.try_from.ensures c.in_ok-number-2.ensures.value
    c.new.ensures.accepted c.new.ensures.value
