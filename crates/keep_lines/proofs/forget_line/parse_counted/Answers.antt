use Rattle.keep_lines.proofs.RuleWords.{no_count, no_name}
use Rattle.keep_lines.proofs.forget_line.parse_counted.Goals as goal

pub returns-in_err-count : goal.returns-in_err-count
returns-in_err-count c =
    let none = rw c.in_err-count.was at c.parse_count.ensures in
    rw c.from_residual.ensures (no_count c.args.name.now c.args.value.now c.requires none)

pub returns-in_default : goal.returns-in_default
returns-in_default c =
    no_name c.args.name.now c.args.value.now c.requires c.in_default.not-last c.in_default.not-daily c.in_default.not-weekly c.in_default.not-monthly c.in_default.not-yearly
