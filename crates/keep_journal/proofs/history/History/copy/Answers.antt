-- The copies are what the history keeps.
use Rattle.keep_journal.proofs.history.History.copy.Goals as goal

pub invariant_of-result : goal.invariant_of-result
invariant_of-result c =
    rw (c.again.ensures, c.in_ok-copy_notices.ensures, c.as_slice.ensures.value, c.in_ok-copy_names.ensures, c.as_slice-2.ensures.value, c.in_ok-copy_standings.ensures, c.as_slice-3.ensures.value)
    c.self.invariant
