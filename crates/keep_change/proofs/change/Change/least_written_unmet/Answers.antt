-- The lists are asked one by one.
use Rattle.std.proofs.Common.{sym}
use Rattle.keep_change.proofs.Least.{least_written}
use Rattle.keep_change.proofs.change.Change.least_written_unmet.Goals as goal

pub returns : goal.returns
returns g c =
    simp (c.lesser-3.ensures, c.lesser-2.ensures, c.lesser.ensures, c.least_filled-adds.ensures, c.least_other_file-drops.ensures, c.least_filled-sets.ensures, c.least_other_mark-clears.ensures, c.as_slice.ensures, c.as_slice-2.ensures, c.as_slice-3.ensures, c.as_slice-4.ensures)
    (sym (least_written (g.H.Holder.holding c.args.holder.now) c.args.self.now))
