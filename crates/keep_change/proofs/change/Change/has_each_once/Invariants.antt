-- What is left passes where all do.
use Rattle.std.proofs.Common.{◌≡◌, drop}
use Rattle.std.specs.List.{list_all}
use Rattle.keep_change.specs.Form.{is_once}
use Rattle.keep_change.proofs.change.Change.has_each_once.Given as goal

abbrev pub invariant-loop-member : goal.invariant-loop-member
invariant-loop-member g l =
    list_all (λ member. is_once l.self (g.M.Member.facet_of member)) (drop l.member-index l.members)
    ≡ list_all (λ member. is_once l.self (g.M.Member.facet_of member)) l.members
