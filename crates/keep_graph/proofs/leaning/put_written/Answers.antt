-- The four lists of what the change writes are gone through in turn.
use Rattle.std.specs.BTreeSet.{contains}
use Rattle.std.specs.Ordering.{nat_cmp}
use Rattle.keep_graph.specs.Leaning.{finds}
use Rattle.keep_graph.proofs.Putting.{puts_all}
use Rattle.keep_graph.proofs.leaning.put_written.Goals as goal

pub returns : goal.returns
returns c =
    puts_all c.args.change.now (finds c.args.touch.now c.args.history.now.journal c.args.n)
    (λ m. contains nat_cmp c.args.found.now m) (λ m. contains nat_cmp c.put_all.new.found m) (λ m. contains nat_cmp c.put_all-2.new.found m)
    (λ m. contains nat_cmp c.put_all-3.new.found m) (λ m. contains nat_cmp c.put_all-4.new.found m)
    (rw c.as_slice.ensures at c.in_ok-put_all.ensures) (rw c.as_slice-2.ensures at c.in_ok-put_all-2.ensures)
    (rw c.as_slice-3.ensures at c.in_ok-put_all-3.ensures) (rw c.as_slice-4.ensures at c.in_ok-put_all-4.ensures)
