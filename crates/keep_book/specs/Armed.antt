-- A book: a ledger, and the vetoes and watches that are armed over it.
use Rattle.std.specs.Prelude.{◌≡◌, ◌≢◌, Bool, true, false, ◌++◌, ◌∷◌, [], Result, Err}
use Rattle.keep_hooks.specs.Guards.{ArmedData, HooksData, Rule}
use Rattle.keep_hooks.specs.Rules.{hooks_data, tallies_of}
use Rattle.keep_ledger.specs.Ends.{Ends, FaultsLast, heard}
use Rattle.keep_ledger.specs.LedgerState.{LedgerState}
use Rattle.keep_ledger.specs.OnShelf.{OnShelf}
use Rattle.keep_ledger.specs.Reply.{Replies, state_after}
use Rattle.keep_ledger.specs.Stops.{EachCallReads}
use Rattle.keep_ledger.specs.Sums.{AreSums}
use Rattle.keep_ledger.specs.declared.reply.Refusal.{Refusal}
use Rattle.keep_ledger.specs.declared.reply.Refusal.TheVariants.{Fault}
use Rattle.keep_journal.specs.declared.request.Told.{Told}
use Rattle.keep_journal.specs.declared.request.Request.{Request}
use Rattle.keep_book.specs.declared.book.Book.{Book}
use Rattle.keep_book.specs.declared.not_armed.NotArmed.{NotArmed}
use Rattle.keep_book.specs.declared.not_armed.NotArmed.TheVariants.{DoubleName, Memory}

-- the ledger on its shelf
abbrev pub on_shelf : {S I F g J E h : _} → Book S I F g J E h → OnShelf
on_shelf book = book.ledger

-- the opening, the events and the live repository
abbrev pub ledger_of : {S I F g J E h : _} → Book S I F g J E h → LedgerState
ledger_of book = (on_shelf book).state

-- what is armed
abbrev pub hooks_of : {S I F g J E h : _} → Book S I F g J E h → HooksData
hooks_of book = hooks_data book.hooks.vetoes.items book.hooks.watches.items

-- each watch of the book has as its total what the events since it was armed count for
abbrev pub HasSums : {S I F g J E h : _} → Book S I F g J E h → Type 0
HasSums book = AreSums (ledger_of book).events (hooks_of book).watches (tallies_of book.hooks.watches.items)

-- the book replies by its ledger and its vetoes, where the shelf doesn't fail before the event is in; an event that is in, settled or not, is added, and the answer tells of the calls, each of which left a shelf that says what was so before or what is so after; what is armed stays, and each total is still the sum
pub record Responds {S I F g J E h : _} (before : Book S I F g J E h) (request : Request)
    (reply : Result Told Refusal) (after : Book S I F g J E h) : Type 0 where
  pub replies : reply ≢ Err Fault
      → Replies (ledger_of before) (hooks_of before).vetoes request (heard (ledger_of before) request reply)
  pub ledger : ledger_of after ≡ state_after (ledger_of before) request (heard (ledger_of before) request reply)
  pub ends : Ends (on_shelf before) request reply (on_shelf after)
  pub faults : FaultsLast (on_shelf before) (hooks_of before).vetoes request reply (on_shelf after)
  pub stops : EachCallReads (on_shelf before) request (on_shelf after)
  pub hooks : hooks_of after ≡ hooks_of before
  pub sums : HasSums after

-- the book is as it was, and each total the sum
pub record IsUnchanged {S I F g J E h : _} (before after : Book S I F g J E h) : Type 0 where
  pub ledger : on_shelf after ≡ on_shelf before
  pub hooks : hooks_of after ≡ hooks_of before
  pub sums : HasSums after

-- what is armed, with one more veto behind the others
abbrev pub with_veto : Rule → HooksData → HooksData
with_veto rule hooks = record hooks { vetoes = hooks.vetoes ++ rule ∷ [] }

-- what is armed, with one more watch behind the others
abbrev pub with_watch : ArmedData → HooksData → HooksData
with_watch watch hooks = record hooks { watches = hooks.watches ++ watch ∷ [] }

-- the veto or the watch that is handed back
abbrev pub hook_of : {H : Type 0} → NotArmed H → H
hook_of (DoubleName hook) = hook
hook_of (Memory hook) = hook

-- whether it is handed back for its name, which another one has
abbrev pub is_double : {H : Type 0} → NotArmed H → Bool
is_double (DoubleName hook) = true
is_double (Memory hook) = false
