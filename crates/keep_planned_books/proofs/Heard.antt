-- What any answer leaves: the book as it was, or the book with the request's event.
use Rattle.std.proofs.Common.{◌≢◌, List, Result, Ok, Err}
use Rattle.keep_hooks.specs.Guards.{Rule}
use Rattle.keep_ledger.specs.Ends.{heard}
use Rattle.keep_ledger.specs.LedgerState.{LedgerState}
use Rattle.keep_ledger.specs.Made.{with_event}
use Rattle.keep_ledger.specs.Reply.{Replies, state_after, told_of}
use Rattle.keep_ledger.specs.declared.reply.Refusal.{Refusal}
use Rattle.keep_ledger.specs.declared.reply.Refusal.TheVariants.{Malformed, Unknown, Final, NotInForce, InForce, Full, Stale, Vetoed, Unmet, LeanedOn, Blocked, Memory, Fault, Unsettled}
use Rattle.keep_journal.specs.declared.request.Told.{Told}
use Rattle.keep_journal.specs.declared.request.Request.{Request}

-- the shelf's fault leaves it as it was, and a change that is unsettled is in
pub by_reply : (P : LedgerState → Type 0) (book : LedgerState) (vetoes : List Rule) (request : Request) → P book → ((told : Told) → Replies book vetoes request (Ok told) → P (with_event book request))
    → (reply : Result Told Refusal) → (reply ≢ Err Fault → Replies book vetoes request (heard book request reply)) → P (state_after book request (heard book request reply))
by_reply P book vetoes request same next (Ok told) made = next told (made (λ e. cc e))
by_reply P book vetoes request same next (Err (Unsettled n)) made = next (told_of book.events request) (made (λ e. cc e))
by_reply P book vetoes request same next (Err Malformed) made = same
by_reply P book vetoes request same next (Err Unknown) made = same
by_reply P book vetoes request same next (Err Final) made = same
by_reply P book vetoes request same next (Err NotInForce) made = same
by_reply P book vetoes request same next (Err InForce) made = same
by_reply P book vetoes request same next (Err Full) made = same
by_reply P book vetoes request same next (Err (Stale length)) made = same
by_reply P book vetoes request same next (Err (Vetoed name)) made = same
by_reply P book vetoes request same next (Err (Unmet facet)) made = same
by_reply P book vetoes request same next (Err (LeanedOn n)) made = same
by_reply P book vetoes request same next (Err (Blocked n)) made = same
by_reply P book vetoes request same next (Err Memory) made = same
by_reply P book vetoes request same next (Err Fault) made = same
