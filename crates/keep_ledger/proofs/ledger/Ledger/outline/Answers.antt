-- A commit that isn't refused has a number.
use Rattle.std.proofs.Common.{◌∙◌, ap, arith}
use Rattle.keep_journal.specs.History.{last_change}
use Rattle.keep_ledger.proofs.Asking.{has_room}
use Rattle.keep_ledger.specs.Request.{CanBegin}
use Rattle.keep_journal.specs.declared.request.Request.TheVariants.{Commit}
use Rattle.keep_ledger.proofs.ledger.Ledger.outline.Goals as goal

pub overflow_add-number : goal.overflow_add-number
overflow_add-number g c =
    let begins : CanBegin c.args.self.now.state (Commit c.in-Commit.planned) = rw c.in-Commit.is at c.requires in
    let room = (has_room c.args.self.now.state c.in-Commit.planned begins.free).numbers in
    let last = c.last_change-number.ensures.exact ∙ ap last_change c.history-history.ensures.events in
    omega (arith, room, last)
