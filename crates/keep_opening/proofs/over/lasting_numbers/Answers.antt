-- One more number.
use Rattle.std.proofs.Common.{◌∙◌}
use Rattle.keep_opening.proofs.Numbers.{next_number}
use Rattle.keep_opening.proofs.over.lasting_numbers.Goals as goal

pub loop-notice-preserved : goal.loop-notice-preserved
loop-notice-preserved c k =
    c.in_ok-insert.ensures.updates.0 k
    ∙ next_number c.notices-notice-items.result.now c.loop-notice.notice-index k _ _ c.loop-notice-test.true (c.loop-notice.invariant k)
