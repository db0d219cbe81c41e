-- Each member's facet is walked in turn.
use Rattle.std.proofs.Common.{[], ◌∷◌, subst}
use Rattle.keep_touch.specs.Gathering.{Walks}
use Rattle.keep_touch.proofs.Walking.{walks_more}
use Rattle.keep_touch.proofs.gathered.Gathered.walk_all.Goals as goal

pub loop-member-preserved : goal.loop-member-preserved
loop-member-preserved g c =
    walks_more g.M.Member.facet_of c.args.members.now c.loop-member.member-index c.member-item.result c.args.history.now.journal c.args.n
    c.args.self.now c.loop-member.self c.walk.new.self c.loop-member-test.true c.member-item.is c.loop-member.invariant
    (subst (λ q. Walks c.args.history.now.journal c.args.n (q ∷ []) c.loop-member.self c.walk.new.self) c.facet.ensures c.in_ok-walk.ensures)
