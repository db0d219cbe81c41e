use Rattle.std.proofs.Common.{◌≡◌, drop, map}
use Rattle.std.specs.List.{position_from}
use Rattle.std.specs.Str.{bytes_eq}
use Rattle.keep_hooks.specs.Guards.{Rule}
use Rattle.keep_hooks.specs.Rules.{rule_of}
use Rattle.keep_answers.proofs.resolving.veto_named.Given as goal

abbrev pub invariant-loop-place : goal.invariant-loop-place
invariant-loop-place g l =
    position_from (λ (it : Rule). bytes_eq it.name l.name) l.place (map rule_of (drop l.place l.vetoes))
    ≡ position_from (λ (it : Rule). bytes_eq it.name l.name) 0 (map rule_of l.vetoes)
