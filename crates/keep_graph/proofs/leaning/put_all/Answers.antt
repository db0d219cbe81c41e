-- Each member's facet is gone through in turn.
use Rattle.std.specs.BTreeSet.{contains}
use Rattle.std.specs.Ordering.{nat_cmp}
use Rattle.keep_graph.proofs.Putting.{puts_more}
use Rattle.keep_graph.proofs.leaning.put_all.Goals as goal

pub loop-member-preserved : goal.loop-member-preserved
loop-member-preserved g c =
    puts_more g.M.Member.facet_of c.args.members.now c.loop-member.member-index c.member-item.result c.args.touch.now c.args.history.now.journal c.args.n
    (λ m. contains nat_cmp c.args.found.now m) (λ m. contains nat_cmp c.loop-member.found m) (λ m. contains nat_cmp c.put_finders.new.found m)
    c.facet.result c.mentions_after-mentions.result.now c.loop-member-test.true c.member-item.is c.facet.ensures c.mentions_after-mentions.ensures
    c.loop-member.invariant c.in_ok-put_finders.ensures
