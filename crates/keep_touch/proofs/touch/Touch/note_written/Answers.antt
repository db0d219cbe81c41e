-- The marks are noted after the files.
use Rattle.keep_touch.proofs.Counting.{noted_written}
use Rattle.keep_touch.proofs.touch.Touch.note_written.Goals as goal

pub returns-clause-ok : goal.returns-clause-ok
returns-clause-ok c =
    noted_written c.args.mention c.args.change.now c.args.self.now c.note_both.new.self c.note_both-2.new.self
    (rw (c.as_slice.ensures, c.as_slice-2.ensures) at c.in_ok-note_both.ensures.ok) (rw (c.as_slice-3.ensures, c.as_slice-4.ensures) at c.in_default.ensures.ok)
