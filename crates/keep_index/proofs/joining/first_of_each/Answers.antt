use Rattle.std.proofs.Common.{ap}
use Rattle.std.specs.BTreeSet.{contains}
use Rattle.std.specs.Cmp.{eq_by_cmp_equiv}
use Rattle.std.specs.Ordering.{eq_by_cmp}
use Rattle.keep_index.proofs.Firsts.{firsts_new, firsts_same, seen_taken}
use Rattle.keep_index.proofs.joining.first_of_each.Goals as goal
use Rattle.keep_index.proofs.joining.first_of_each.Goals.{then-branch+in_ok-push, else-branch}

pub loop-item-preserved : goal.loop-item-preserved
loop-item-preserved g c =
    let same = eq_by_cmp g.T.Ord.cmp in
    let laws = eq_by_cmp_equiv g.met.T.Ord.total in
    let xs = c.args.items.now in
    let i = c.loop-item.item-index in
    let x = c.item-item.result in
    let firsts = c.loop-item.firsts.items in
    let seen = contains g.T.Ord.cmp c.loop-item.seen x in
    let new = c.in_ok-insert.field-0 in
    let is_new = c.in_ok-insert.ensures.added in
    let now = c.if-branch.firsts.items in
    let before = c.loop-item.invariant in
    record {
      seen = λ q. seen_taken same laws xs i x c.loop-item-test.true c.item-item.is q (contains g.T.Ord.cmp c.loop-item.seen q) (contains g.T.Ord.cmp c.insert.new.self q) (before.seen q) (c.in_ok-insert.ensures.updates.0 q);
      firsts = elim c.if-branch.branch [
        | then-branch+in_ok-push w ↦
            firsts_new same laws xs i x c.loop-item-test.true c.item-item.is new seen firsts is_new (before.seen x) before.firsts
            w.push.new.self.items now w.if-branch.true w.in_ok-push.ensures.items (ap (λ v. v.items) w.firsts-is)
        | else-branch w ↦
            firsts_same same laws xs i x c.loop-item-test.true c.item-item.is new seen firsts is_new (before.seen x) before.firsts
            now w.if-branch.false (ap (λ v. v.items) w.firsts-is)
      ];
    }
