-- The facets of the members so far are noted.
use Rattle.std.proofs.Common.{map, take}
use Rattle.keep_touch.specs.Noting.{Notes}
use Rattle.keep_touch.proofs.touch.Touch.note_all.Given as goal

abbrev pub invariant-loop-i : goal.invariant-loop-i
invariant-loop-i g l = Notes l.mention (map g.M.Member.facet_of (take l.i l.members)) l.initial.self l.self
