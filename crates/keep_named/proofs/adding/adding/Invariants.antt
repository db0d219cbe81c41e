use Rattle.std.proofs.Common.{◌≡◌}
use Rattle.keep_named.specs.Adding.{adding_up_to}
use Rattle.keep_named.proofs.adding.adding.Given as goal

abbrev pub invariant-loop-before : goal.invariant-loop-before
invariant-loop-before l = l.found ≡ adding_up_to l.history.journal l.snapshot l.before
