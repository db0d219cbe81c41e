-- One list is noted after the other.
use Rattle.std.proofs.Common.{map}
use Rattle.keep_touch.proofs.Counting.{noted_both}
use Rattle.keep_touch.proofs.touch.Touch.note_both.Goals as goal

pub returns-clause-ok : goal.returns-clause-ok
returns-clause-ok g c =
    noted_both c.args.mention (map g.M.Member.facet_of c.args.some.now) (map g.M.Member.facet_of c.args.others.now)
    c.args.self.now c.note_all.new.self c.note_all-2.new.self c.in_ok-note_all.ensures.ok c.in_default.ensures.ok
