-- The facets of the members before this one are walked.
use Rattle.std.proofs.Common.{map, take}
use Rattle.keep_touch.specs.Gathering.{Walks}
use Rattle.keep_touch.proofs.gathered.Gathered.walk_all.Given as goal

abbrev pub invariant-loop-member : goal.invariant-loop-member
invariant-loop-member g l = Walks l.history.journal l.n (map g.M.Member.facet_of (take l.member-index l.members)) l.initial.self l.self
