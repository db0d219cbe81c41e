use Rattle.std.proofs.Common.{◌≡◌, filter, map, not, take}
use Rattle.std.specs.BTreeSet.{contains}
use Rattle.keep_names.specs.Orders.{id_cmp}
use Rattle.keep_snap.specs.Facts.{facts_view}
use Rattle.keep_labels.proofs.policy.others.Given as goal

abbrev pub invariant-loop-facts : goal.invariant-loop-facts
invariant-loop-facts l =
    l.names.items
    ≡ map (λ s. s.name) (filter (λ s. not (contains id_cmp l.kept s.name)) (map facts_view (take l.facts-index l.taken)))
