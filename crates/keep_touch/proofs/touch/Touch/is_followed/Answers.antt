-- The number isn't among the followed, or nothing comes after it.
use Rattle.std.proofs.Common.{◌≤◌, ◌∙◌, sym, arith}
use Rattle.keep_journal.specs.History.{last_change}
use Rattle.keep_touch.proofs.Alone.{last_alone, unfollowed_alone}
use Rattle.keep_touch.proofs.touch.Touch.is_followed.Goals as goal

pub returns-then-n-last_change-clause-alone : goal.returns-then-n-last_change-clause-alone
returns-then-n-last_change-clause-alone c denied =
    unfollowed_alone c.args.self.now c.args.history.now.journal c.args.n c.requires c.last_change.ensures.numbered (sym c.contains.ensures ∙ denied)

pub returns-else-n-last_change-clause-alone : goal.returns-else-n-last_change-clause-alone
returns-else-n-last_change-clause-alone c denied =
    let past : last_change c.args.history.now.journal ≤ c.args.n = omega arith in
    last_alone c.args.history.now.journal c.args.n c.last_change.ensures.numbered past
