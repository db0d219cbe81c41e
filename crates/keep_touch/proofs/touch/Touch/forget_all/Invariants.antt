-- The facets of the members so far are forgotten.
use Rattle.std.proofs.Common.{map, take}
use Rattle.keep_touch.specs.Noting.{Forgets}
use Rattle.keep_touch.proofs.touch.Touch.forget_all.Given as goal

abbrev pub invariant-loop-member : goal.invariant-loop-member
invariant-loop-member g l = Forgets (map g.M.Member.facet_of (take l.member-index l.members)) l.initial.self l.self
