-- What is left has one where all have one.
use Rattle.std.proofs.Common.{◌≡◌, drop, map}
use Rattle.std.specs.List.{list_any}
use Rattle.keep_change.specs.Touch.{touches}
use Rattle.keep_change.proofs.change.Change.touches_some.Given as goal

abbrev pub invariant-loop-member : goal.invariant-loop-member
invariant-loop-member g l =
    list_any (touches l.self) (map g.M.Member.facet_of (drop l.member-index l.members))
    ≡ list_any (touches l.self) (map g.M.Member.facet_of l.members)
