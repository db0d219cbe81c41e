-- What each answer says of the calls that were made, and of what is left due.
use Rattle.std.specs.Prelude.{◌≡◌, ℕ, ◌+◌, ◌*◌, ◌<◌, ◌≤◌, List, [], length, Some, Result, Ok, Err, ◌⊎◌}
use Rattle.keep_change.specs.declared.change.Change.{Change}
use Rattle.keep_change.specs.declared.change.Planned.{Planned}
use Rattle.keep_journal.specs.History.{change_of}
use Rattle.keep_hooks.specs.Guards.{Rule}
use Rattle.keep_shelf.specs.Shelved.{risen}
use Rattle.keep_moves.specs.Lists.{swept_keys}
use Rattle.keep_ledger.specs.LedgerState.{LedgerState}
use Rattle.keep_ledger.specs.OnShelf.{OnShelf, entered, faulted, looked, looks_for, moved_on, settled}
use Rattle.keep_ledger.specs.Reply.{Replies, about, told_of}
use Rattle.keep_ledger.specs.declared.reply.Refusal.{Refusal}
use Rattle.keep_ledger.specs.declared.reply.Refusal.TheVariants.{Fault, Unsettled}
use Rattle.keep_journal.specs.declared.request.Told.{Told}
use Rattle.keep_journal.specs.declared.request.Request.{Request}
use Rattle.keep_journal.specs.declared.request.Request.TheVariants.{Commit, Undo, Redo, Empty}

-- the reply as if the shelf hadn't failed: an event that is in, and has moves left, is heard as told
abbrev pub heard : LedgerState → Request → Result Told Refusal → Result Told Refusal
heard b request (Err (Unsettled n)) = Ok (told_of b.events request)
heard b request reply = reply

-- a call fails before all moves that were due are made
abbrev pub FaultsAtMoves : OnShelf → OnShelf → Type 0
FaultsAtMoves b after = (i : ℕ) × (i < length b.due) × (after ≡ faulted (moved_on i b))

-- a call fails before the request's event is in: one of the reads, or the writing of the entry
abbrev pub FaultsAtEntry : OnShelf → Request → OnShelf → Type 0
FaultsAtEntry b request after = (i : ℕ) × (i ≤ looks_for b.state request) × (after ≡ faulted (looked i b))

-- what an answer leaves. First the moves that were due are made, whatever is asked. Of an accepted request the event is entered and its moves are made. Where a call fails it is the last one: before the event is in that is a Fault, and after it the change is unsettled. Any other refusal makes no call
abbrev pub Ends : OnShelf → Request → Result Told Refusal → OnShelf → Type 0
Ends b request (Ok told) after = after ≡ settled (entered request (settled b))
Ends b request (Err Fault) after = FaultsAtMoves b after ⊎ FaultsAtEntry (settled b) request after
Ends b request (Err (Unsettled n)) after = (n ≡ about b.state.events request) × FaultsAtMoves (entered request (settled b)) after
Ends b request (Err refusal) after = after ≡ settled b

-- where the shelf's fault is the answer, a move that was due failed, or nothing objects to the request: it would have been told
abbrev pub FaultsLast : OnShelf → List Rule → Request → Result Told Refusal → OnShelf → Type 0
FaultsLast b rules request reply after =
    reply ≡ Err Fault → FaultsAtMoves b after ⊎ Replies b.state rules request (Ok (told_of b.state.events request))

-- ---- in numbers

-- so many calls went well
abbrev pub MakesCalls : ℕ → OnShelf → OnShelf → Type 0
MakesCalls count before after = length after.shelf.calls ≡ length before.shelf.calls + count

-- how many calls an accepted request makes where no move was due
pub record CallsAreCounted (before after : OnShelf) : Type 0 where
  pub commit : (p : Planned) (told : Told) → Ends before (Commit p) (Ok told) after
      → MakesCalls (1 + length p.change.adds + length p.change.drops) before after
  pub undo : (n : ℕ) (c : Change) (told : Told) → change_of before.state.events n ≡ Some c → Ends before (Undo n) (Ok told) after
      → MakesCalls (1 + length c.adds + 2 * length c.drops) before after
  pub redo : (n : ℕ) (c : Change) (told : Told) → change_of before.state.events n ≡ Some c → Ends before (Redo n) (Ok told) after
      → MakesCalls (1 + 2 * length c.adds + length c.drops) before after
  pub empty : (n : ℕ) (told : Told) → Ends before (Empty n) (Ok told) after
      → MakesCalls (1 + length (swept_keys before.state.events n)) before after

abbrev pub AcceptedIsCounted : Type 0
AcceptedIsCounted = (before after : OnShelf) → before.due ≡ [] → CallsAreCounted before after

-- the shelf's count of failures after an answer: one more just where it is a Fault or an unsettled change
abbrev pub failures_after : Result Told Refusal → ℕ → ℕ
failures_after (Err Fault) n = risen n
failures_after (Err (Unsettled m)) n = risen n
failures_after reply n = n

abbrev pub FaultsAreCounted : Type 0
FaultsAreCounted =
    (before after : OnShelf) (request : Request) (reply : Result Told Refusal) → Ends before request reply after
    → after.shelf.failures ≡ failures_after reply before.shelf.failures
