-- What the book shows to planners, and the request for what they planned on that.
use Rattle.keep_change.specs.declared.change.Change.{Change}
use Rattle.keep_journal.specs.History.{length_of}
use Rattle.keep_journal.specs.declared.request.Request.{Request}
use Rattle.keep_journal.specs.declared.request.Request.TheVariants.{Commit}
use Rattle.keep_ledger.specs.LedgerState.{LedgerState}
use Rattle.keep_view.specs.Shown.{Shown, shown_of}

-- what a ledger shows
abbrev pub shown_by : LedgerState → Shown
shown_by b = shown_of b.opening b.events b.live

-- to commit the change, planned on the ledger as it is
abbrev pub commit_of : LedgerState → Change → Request
commit_of b change = Commit (record { change = change; seen = length_of b.events })
