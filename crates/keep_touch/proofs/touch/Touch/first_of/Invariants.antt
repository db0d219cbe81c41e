-- The first that touches a facet of the members so far.
use Rattle.std.proofs.Common.{◌≡◌, map, take}
use Rattle.keep_journal.specs.Kept.{later}
use Rattle.keep_touch.specs.Finding.{first_among}
use Rattle.keep_touch.proofs.touch.Touch.first_of.Given as goal

abbrev pub invariant-loop-member : goal.invariant-loop-member
invariant-loop-member g l = l.first ≡ first_among (map g.M.Member.facet_of (take l.member-index l.members)) (later l.history.journal l.n)
