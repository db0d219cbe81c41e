-- What touches a facet that the change writes leans on it.
use Rattle.std.proofs.Common.{sym}
use Rattle.keep_touch.proofs.Walking.{walked_finds}
use Rattle.keep_touch.proofs.gathered.Gathered.look_at.Goals as goal

pub returns-in_ok-walk_written : goal.returns-in_ok-walk_written
returns-in_ok-walk_written c =
    walked_finds c.args.history.now.journal c.args.n c.in-Some.change.now c.args.self.now c.walk_written.new.self
    (sym c.in-Some.ensures.exact) c.in_ok-walk_written.ensures
