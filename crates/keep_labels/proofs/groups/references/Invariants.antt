use Rattle.std.proofs.Common.{◌≡◌, map, take}
use Rattle.keep_snap.specs.Facts.{facts_view}
use Rattle.keep_labels.specs.Walk.{seen_view}
use Rattle.keep_labels.proofs.groups.references.Given as goal

abbrev pub invariant-loop-facts : goal.invariant-loop-facts
invariant-loop-facts l = map seen_view l.all.items ≡ map facts_view (take l.facts-index l.taken)
