-- The four lists of what the change writes are walked in turn.
use Rattle.keep_touch.proofs.Walking.{walks_lists}
use Rattle.keep_touch.proofs.gathered.Gathered.walk_written.Goals as goal

pub returns : goal.returns
returns c =
    walks_lists c.args.change.now c.args.history.now.journal c.args.n
    c.args.self.now c.walk_all.new.self c.walk_all-2.new.self c.walk_all-3.new.self c.walk_all-4.new.self
    (rw c.as_slice.ensures at c.in_ok-walk_all.ensures) (rw c.as_slice-2.ensures at c.in_ok-walk_all-2.ensures)
    (rw c.as_slice-3.ensures at c.in_ok-walk_all-3.ensures) (rw c.as_slice-4.ensures at c.in_ok-walk_all-4.ensures)
