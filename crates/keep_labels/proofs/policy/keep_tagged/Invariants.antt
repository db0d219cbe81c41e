use Rattle.std.proofs.Common.{◌≡◌, ◌||◌, drop, map, string_bytes}
use Rattle.std.specs.BTreeSet.{contains}
use Rattle.keep_names.specs.Orders.{id_cmp}
use Rattle.keep_names.specs.declared.id.Id.{Id}
use Rattle.keep_snap.specs.Facts.{facts_view}
use Rattle.keep_labels.specs.Keeping.{by_tag, has_passing}
use Rattle.keep_labels.proofs.policy.keep_tagged.Given as goal

-- what is there and what is left are what was there and all
abbrev pub invariant-loop-facts : goal.invariant-loop-facts
invariant-loop-facts l = (name : Id)
    → (contains id_cmp l.kept name || has_passing (by_tag (map string_bytes l.tags)) (map facts_view (drop l.facts-index l.taken)) name)
    ≡ (contains id_cmp l.initial.kept name || has_passing (by_tag (map string_bytes l.tags)) (map facts_view l.taken) name)
