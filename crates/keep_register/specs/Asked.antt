-- What an answer says of the list of events that it was given on.
use Rattle.std.specs.Prelude.{◌≡◌, ℕ, ◌+◌, Bool, true, false, if◌then◌else◌, List, [], ◌∷◌, ◌++◌, Result, Ok, Err}
use Rattle.keep_journal.specs.declared.event.Event.{Event}
use Rattle.keep_hooks.specs.Guards.{Rule}
use Rattle.keep_ledger.specs.LedgerState.{LedgerState}
use Rattle.keep_ledger.specs.Made.{event_of}
use Rattle.keep_ledger.specs.Reply.{Replies, about, told_of}
use Rattle.keep_ledger.specs.declared.reply.Refusal.{Refusal}
use Rattle.keep_ledger.specs.declared.reply.Refusal.TheVariants.{Fault, Unsettled}
use Rattle.keep_journal.specs.declared.request.Told.{Told}
use Rattle.keep_journal.specs.declared.request.Request.{Request}
use Rattle.keep_pages.specs.Histories.{state_of}

-- whether the event of a request is in: it was told, or is unsettled
abbrev pub is_in : Result Told Refusal → Bool
is_in (Ok told) = true
is_in (Err (Unsettled n)) = true
is_in (Err refusal) = false

-- a count of the events that are in, after one more answer
abbrev pub counted_after : Bool → ℕ → ℕ
counted_after is_in n = if is_in then n + 1 else n

-- the request would be told after these events, as this event, and these are the events with it
abbrev pub IsIn : List Rule → LedgerState → Request → List Event → List Event → Type 0
IsIn rules opening request on now = let b = state_of opening on in
    Replies b rules request (Ok (told_of b.events request)) × (now ≡ on ++ event_of b request ∷ [])

-- the request was asked after the events `on`, and got this answer: where it is told, or in and unsettled, its event
-- is the next one; else the list stays, and but for the shelf's fault the refusal is the ledger's
abbrev pub WasAsked : List Rule → LedgerState → Request → Result Told Refusal → List Event → List Event → Type 0
WasAsked rules opening request (Ok told) on now =
    IsIn rules opening request on now × (told ≡ told_of (state_of opening on).events request)
WasAsked rules opening request (Err (Unsettled n)) on now =
    IsIn rules opening request on now × (n ≡ about (state_of opening on).events request)
WasAsked rules opening request (Err Fault) on now = now ≡ on
WasAsked rules opening request (Err refusal) on now = Replies (state_of opening on) rules request (Err refusal) × (now ≡ on)
