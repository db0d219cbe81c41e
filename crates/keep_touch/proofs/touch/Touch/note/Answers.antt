-- No facet stands twice, so each is noted once.
use Rattle.keep_touch.proofs.Counting.{noted_whole}
use Rattle.keep_touch.proofs.touch.Touch.note.Goals as goal

pub returns-clause-ok : goal.returns-clause-ok
returns-clause-ok c =
    noted_whole c.args.n c.args.change.now c.args.self.now c.note_written.new.self c.note_asked.new.self c.requires
    c.in_ok-note_written.ensures.ok c.in_default.ensures.ok
