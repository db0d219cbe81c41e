-- The changes in force of the mentions are the later ones that touch the facet.
use Rattle.std.specs.BTreeSet.{contains}
use Rattle.std.specs.Ordering.{nat_cmp}
use Rattle.keep_touch.specs.Gathering.{is_pending}
use Rattle.keep_touch.proofs.Walking.{put_mentions, walks_one}
use Rattle.keep_touch.proofs.gathered.Gathered.walk.Goals as goal

pub returns-in_ok-put_in_force : goal.returns-in_ok-put_in_force
returns-in_ok-put_in_force c =
    walks_one c.args.self.now (record { pending = c.put_in_force.new.pending; walked = c.insert.new.self }) c.args.facet
    c.in_ok-is_new.ensures.updates.0 c.args.history.now.journal c.args.n
    (put_mentions c.args.touch.now c.args.history.now.journal c.args.facet c.args.n c.mentions_after.result.now
    (is_pending c.args.self.now) (λ m. contains nat_cmp c.put_in_force.new.pending m)
    c.requires.noted c.requires.numbered c.mentions_after.ensures c.in_ok-put_in_force.ensures)
