-- The lists are asked one by one.
use Rattle.std.proofs.Common.{sym}
use Rattle.keep_change.proofs.Least.{least_asked}
use Rattle.keep_change.proofs.change.Change.least_asked_unmet.Goals as goal

pub returns : goal.returns
returns g c =
    simp (c.lesser-3.ensures, c.lesser-2.ensures, c.lesser.ensures, c.least_empty-present.ensures, c.least_filled-absent.ensures, c.least_empty-marked.ensures, c.least_filled-unmarked.ensures, c.as_slice.ensures, c.as_slice-2.ensures, c.as_slice-3.ensures, c.as_slice-4.ensures)
    (sym (least_asked (g.H.Holder.holding c.args.holder.now) c.args.self.now))
