use Rattle.std.proofs.Common.{◌≡◌, ◌++◌, drop, map}
use Rattle.keep_snap.specs.Facts.{facts_view}
use Rattle.keep_rewrite.proofs.rewrite_plan.names_of.Given as goal

abbrev pub invariant-loop-facts : goal.invariant-loop-facts
invariant-loop-facts l =
    l.names.items ++ map (λ s. s.name) (map facts_view (drop l.facts-index l.taken)) ≡ map (λ s. s.name) (map facts_view l.taken)
