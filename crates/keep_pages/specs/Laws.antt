-- What holds of the events that are accepted, one after another.
use Rattle.std.specs.Prelude.{◌≡◌, ◌+◌, List, [], ◌∷◌, ◌++◌, length, Ok}
use Rattle.keep_journal.specs.History.{length_of}
use Rattle.keep_journal.specs.declared.event.Event.{Event}
use Rattle.keep_hooks.specs.Guards.{Rule}
use Rattle.keep_ledger.specs.LedgerState.{LedgerState}
use Rattle.keep_ledger.specs.Made.{event_of, with_event}
use Rattle.keep_ledger.specs.Reply.{Replies}
use Rattle.keep_journal.specs.declared.request.Told.{Told}
use Rattle.keep_journal.specs.declared.request.Request.{Request}
use Rattle.keep_pages.specs.Following.{Follows}
use Rattle.keep_pages.specs.Histories.{length_at, state_of, state_with, IsAccepted, IsHistory, IsLegal, IsOpenLedger}

-- an accepted request leaves just what its event leaves
abbrev pub EventsTellAll : Type 0
EventsTellAll = (b : LedgerState) (request : Request) → with_event b request ≡ state_with b (event_of b request)

-- each accepted event can be followed
abbrev pub AcceptedIsFollowed : Type 0
AcceptedIsFollowed =
    (rules : List Rule) (b : LedgerState) (e : Event) → IsOpenLedger b → IsAccepted rules b e → Follows b e

-- an open ledger is one still with the event of an accepted request
abbrev pub AcceptedStayOpen : Type 0
AcceptedStayOpen =
    (b : LedgerState) (rules : List Rule) (request : Request) (told : Told)
    → IsOpenLedger b → Replies b rules request (Ok told) → IsOpenLedger (with_event b request)

-- and after a history
abbrev pub HistoriesStayOpen : Type 0
HistoriesStayOpen =
    (rules : List Rule) (b : LedgerState) (es : List Event) → IsHistory rules b es → IsOpenLedger (state_of b es)

-- a history grows by an event that is accepted after it
abbrev pub HistoriesGrow : Type 0
HistoriesGrow =
    (rules : List Rule) (b : LedgerState) (es : List Event) (e : Event) → IsLegal rules b es
    → IsAccepted rules (state_of b es) e → IsLegal rules b (es ++ e ∷ [])

-- each event has the next number
abbrev pub EventsAreCounted : Type 0
EventsAreCounted = (b : LedgerState) (es : List Event) → length_at b es ≡ length_of b.events + length es
