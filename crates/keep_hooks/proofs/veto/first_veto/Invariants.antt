use Rattle.std.proofs.Common.{◌≡◌, drop}
use Rattle.std.specs.List.{position_from}
use Rattle.keep_hooks.specs.Limits.{refuses}
use Rattle.keep_hooks.proofs.veto.first_veto.Given as goal

abbrev pub invariant-loop-index : goal.invariant-loop-index
invariant-loop-index g l =
    position_from (λ veto. refuses veto.rule l.outline) l.index (drop l.index l.vetoes)
    ≡ position_from (λ veto. refuses veto.rule l.outline) 0 l.vetoes
