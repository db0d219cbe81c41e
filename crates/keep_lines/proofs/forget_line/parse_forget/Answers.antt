use Rattle.std.proofs.Common.{sym, ap, ◌∙◌}
use Rattle.keep_lines.proofs.RuleWords.{count_twice}
use Rattle.keep_lines.specs.ForgetLine.{count_once}
use Rattle.keep_lines.proofs.forget_line.parse_forget.Goals as goal

pub returns-in_default : goal.returns-in_default
returns-in_default c =
    let none = rw c.in_default.is at c.in_ok-filter.ensures in
    λ forget h e. none (forget.filter, forget.rules) h.0 e

pub returns-then-not-count_once : goal.returns-then-not-count_once
returns-then-not-count_once c =
    let asked = rw c.in-Some.is at c.in_ok-filter.ensures in
    count_twice (c.in-Some.filter, c.in-Some.rules) c.args.text.now asked.0 asked.1 (ap count_once (sym c.deref.ensures.value) ∙ sym c.count_once.ensures ∙ c.if-not-count_once.true)
