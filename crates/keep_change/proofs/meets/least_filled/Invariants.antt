-- The least so far, and the least of what is left, are the least of all.
use Rattle.std.proofs.Common.{◌≡◌, drop}
use Rattle.std.specs.Prelude.{is_some}
use Rattle.keep_change.specs.Form.{lesser, least_where}
use Rattle.keep_change.proofs.meets.least_filled.Given as goal

abbrev pub invariant-loop-member : goal.invariant-loop-member
invariant-loop-member g l =
    lesser l.least (least_where g.M.Member.facet_of (λ member. is_some (g.H.Holder.holding l.holder (g.M.Member.facet_of member))) (drop l.member-index l.members))
    ≡ least_where g.M.Member.facet_of (λ member. is_some (g.H.Holder.holding l.holder (g.M.Member.facet_of member))) l.members
