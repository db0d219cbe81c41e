-- No facet stands twice, so each is taken back once.
use Rattle.keep_touch.proofs.Counting.{forgotten_whole}
use Rattle.keep_touch.proofs.touch.Touch.forget.Goals as goal

pub returns : goal.returns
returns c before n noted =
    forgotten_whole n c.args.change.now before c.args.self.now c.forget_asked.new.self c.forget_written.new.self c.requires noted
    c.forget_asked.ensures c.forget_written.ensures
