use Rattle.std.proofs.Common.{◌≡◌, ◌++◌, drop}
use Rattle.keep_patterns.specs.Steps.{opened}
use Rattle.keep_patterns.proofs.rests.push_at_root.Given as goal

abbrev pub invariant-loop-used : goal.invariant-loop-used
invariant-loop-used l = l.left.items ++ opened l.fn.index l.used (drop l.used l.components) ≡ l.initial.left.items ++ opened l.fn.index 0 l.components
