use Rattle.std.proofs.Common.{◌≡◌, drop}
use Rattle.keep_lines.specs.Policies.{count_in}
use Rattle.keep_lines.proofs.policies.count_of.Given as goal

abbrev pub invariant-loop-rule : goal.invariant-loop-rule
invariant-loop-rule l = count_in l.span (drop l.rule-index l.rules) ≡ count_in l.span l.rules
