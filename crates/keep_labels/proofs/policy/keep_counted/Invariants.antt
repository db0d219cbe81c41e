use Rattle.std.proofs.Common.{◌≡◌, ◌||◌, drop}
use Rattle.std.specs.BTreeSet.{contains}
use Rattle.keep_names.specs.Orders.{id_cmp}
use Rattle.keep_names.specs.declared.id.Id.{Id}
use Rattle.keep_labels.proofs.Kept.{is_named}
use Rattle.keep_labels.proofs.policy.keep_counted.Given as goal

-- what is there and what is left are what was there and all
abbrev pub invariant-loop-name : goal.invariant-loop-name
invariant-loop-name l = (name : Id)
    → (contains id_cmp l.kept name || is_named (drop l.name-index l.name-items) name)
    ≡ (contains id_cmp l.initial.kept name || is_named l.name-items name)
