use Rattle.std.proofs.Common.{◌≡◌, drop}
use Rattle.keep_patterns.specs.Steps.{step_view, walked}
use Rattle.keep_patterns.proofs.rests.walk.Given as goal

abbrev pub invariant-loop-component : goal.invariant-loop-component
invariant-loop-component l = record {
  at : l.stand.rest.used ≡ l.component-index;
  last : walked l.name (step_view l.stand) (drop l.component-index l.components) ≡ walked l.name (step_view l.initial.stand) l.components;
}
