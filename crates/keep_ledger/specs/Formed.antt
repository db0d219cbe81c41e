-- That changes are well formed, and that they are noted, has one proof at most.
use Rattle.std.specs.Coded.{codes, le_prop}
use Rattle.std.specs.List.Sorted.{IsStrictlySortedBy-prop}
use Rattle.keep_repo.specs.Facet.{facet_cmp}
use Rattle.keep_change.specs.declared.change.Change.{Change}
use Rattle.keep_change.specs.Form.{IsWellFormed, ListsInOrder}
use Rattle.keep_journal.specs.Journal.{Journal}
use Rattle.keep_journal.specs.Opening.{AreWellFormed}
use Rattle.keep_touch.specs.Mentions.{AreNoted}
use Rattle.keep_touch.specs.declared.touch.Touch.{Touch}

in_order-prop : (c : Change) → IsProp (ListsInOrder c)
in_order-prop c = hlevel (IsStrictlySortedBy-prop facet_cmp)

formed-prop : (c : Change) → IsProp (IsWellFormed c)
formed-prop c = hlevel (in_order-prop c, le_prop, codes)

pub AreWellFormed-prop : (j : Journal) → IsProp (AreWellFormed j)
AreWellFormed-prop j = hlevel formed-prop

pub AreNoted-prop : (touch : Touch) (j : Journal) → IsProp (AreNoted touch j)
AreNoted-prop touch j = hlevel codes
