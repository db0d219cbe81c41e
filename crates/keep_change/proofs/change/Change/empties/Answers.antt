-- Something was there before where it is dropped or cleared.
use Rattle.std.proofs.Common.{sym, ◌∙◌}
use Rattle.keep_change.proofs.Before.{before-some}
use Rattle.keep_change.proofs.Touching.{by_first, by_second}
use Rattle.keep_change.proofs.change.Change.empties.Goals as goal

pub returns-then-contains : goal.returns-then-contains
returns-then-contains c =
    by_first _ _ _ c.if-contains.true (rw c.as_slice.ensures at c.contains.ensures)
    ∙ sym (before-some c.args.self.now c.requires.once c.args.facet)

pub returns-else-contains : goal.returns-else-contains
returns-else-contains c =
    by_second _ _ _ _ c.if-contains.false (rw c.as_slice.ensures at c.contains.ensures) (rw c.as_slice-else-contains.ensures at c.contains-else-contains.ensures)
    ∙ sym (before-some c.args.self.now c.requires.once c.args.facet)
