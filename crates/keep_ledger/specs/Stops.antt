-- Wherever a request stops, what stands on the shelf says what was so before it, or what is so after it.
use Rattle.std.specs.Prelude.{drop, length, ◌⊎◌}
use Rattle.std.specs.FinMap as finite
use Rattle.std.specs.List.{AllByRecursion}
use Rattle.keep_journal.specs.Lasting.{lasting}
use Rattle.keep_shelf.specs.Shelved.{Content}
use Rattle.keep_moves.specs.Move.{CanMake}
use Rattle.keep_reading.specs.Reads.{Reads}
use Rattle.keep_reading.specs.Due.{IsRead}
use Rattle.keep_ledger.specs.LedgerState.{LedgerState}
use Rattle.keep_ledger.specs.Made.{with_event}
use Rattle.keep_ledger.specs.OnShelf.{OnShelf}
use Rattle.keep_journal.specs.declared.request.Request.{Request}

-- what stands on the ledger's shelf says what the ledger says, and the moves that are due can all be made
pub record IsShown (b : OnShelf) : Type 0 where
  pub reads : IsRead b.state.opening b.state.events b.due (finite.get b.shelf.content)
  pub can : CanMake b.due (finite.get b.shelf.content)

-- this content says what the ledger says
abbrev pub Says : LedgerState → Content → Type 0
Says b content = Reads (finite.get content) b.opening (lasting b.events)

-- it says what the ledger says before the request, or after it
abbrev pub IsBeforeOrAfter : LedgerState → Request → Content → Type 0
IsBeforeOrAfter b request content = Says b content ⊎ Says (with_event b request) content

-- so does what each call left that was made for the request
abbrev pub EachCallReads : OnShelf → Request → OnShelf → Type 0
EachCallReads b request after = AllByRecursion (IsBeforeOrAfter b.state request) (drop (length b.shelf.calls) after.shelf.calls)
