-- The marks are those of the opening after the emptying.
use Rattle.std.proofs.Common.{◌≡◌, ◌∙◌, ap}
use Rattle.keep_change.specs.Fold.{fold_of}
use Rattle.keep_change.specs.Marks.{marks_of}
use Rattle.keep_journal.specs.Event.{emptying}
use Rattle.keep_journal.specs.Kept.{up_to}
use Rattle.keep_journal.specs.Opening.{opening_under}
use Rattle.keep_ledger.proofs.Marking.{new_opening}
use Rattle.keep_ledger.proofs.preparing.event_for.Goals as goal

pub returns-in_ok-marks-in-Empty-clause-event : goal.returns-in_ok-marks-in-Empty-clause-event
returns-in_ok-marks-in-Empty-clause-event c =
    let j = c.args.history.now.journal in
    let live = c.args.live.now in
    let n = c.in-Empty.number in
    let marks : c.in_ok-marks-in-Empty.marks ≡ marks_of (fold_of (up_to j n) (opening_under j live)) =
    c.in_ok-marks-in-Empty.ensures ∙ ap marks_of (new_opening (opening_under j live) j live n c.requires.open) in
    rw c.in-Empty.is (ap (emptying n) marks)
