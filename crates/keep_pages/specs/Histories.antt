-- Lists of events, each accepted where it stands, and what a ledger says after them.
use Rattle.std.specs.Prelude.{◌≡◌, ℕ, ◌+◌, List, [], ◌∷◌, Ok}
use Rattle.std.specs.List.{fold}
use Rattle.keep_repo.specs.Repository.{Repository}
use Rattle.keep_change.specs.Fold.{fold_of}
use Rattle.keep_journal.specs.History.{length_of}
use Rattle.keep_journal.specs.Journal.{posted}
use Rattle.keep_journal.specs.Kept.{up_to}
use Rattle.keep_journal.specs.Opening.{IsOpen}
use Rattle.keep_journal.specs.declared.event.Event.{Event}
use Rattle.keep_journal.specs.declared.event.EventKind.{EventKind}
use Rattle.keep_journal.specs.declared.event.EventKind.TheVariants.{Empty}
use Rattle.keep_hooks.specs.Guards.{Rule}
use Rattle.keep_view.specs.Shown.{Shown, shown_of}
use Rattle.keep_ledger.specs.LedgerState.{LedgerState}
use Rattle.keep_ledger.specs.Made.{event_of, ledger_over}
use Rattle.keep_ledger.specs.Reply.{Replies, told_of}
use Rattle.keep_journal.specs.declared.request.Request.{Request}

-- ---- what a ledger says after events

-- the opening after an event: an emptying moves it over the changes that become final
abbrev pub opening_by : LedgerState → ℕ → EventKind → Repository
opening_by b n (Empty marks) = fold_of (up_to b.events n) b.opening
opening_by b n _ = b.opening

-- the ledger with one more event
abbrev pub state_with : LedgerState → Event → LedgerState
state_with b e = ledger_over (opening_by b e.number e.kind) (posted b.events (length_of b.events + 1) e)

-- the ledger with these events more, one after another
abbrev pub state_of : LedgerState → List Event → LedgerState
state_of b es = fold state_with b es

-- the number of the last event then
abbrev pub length_at : LedgerState → List Event → ℕ
length_at b es = length_of (state_of b es).events

-- what planners and readers are shown then
abbrev pub shown_at : LedgerState → List Event → Shown
shown_at b es = let s = state_of b es in shown_of s.opening s.events s.live

-- ---- which events were accepted

-- the ledger's events are legal, and those changes that can still be undone make its live repository of its opening
abbrev pub IsOpenLedger : LedgerState → Type 0
IsOpenLedger b = IsOpen b.opening b.events b.live

-- the event is in: it is that of some request which is told of it, so neither the ledger nor these rules object.
-- Moves that are left due make no difference
pub record IsAccepted (rules : List Rule) (b : LedgerState) (e : Event) : Type 0 where
  pub request : Request
  pub reply : Replies b rules request (Ok (told_of b.events request))
  pub event : e ≡ event_of b request

-- each of the events is accepted after those before it
abbrev pub IsLegal : List Rule → LedgerState → List Event → Type 0
IsLegal rules b [] = Unit {0}
IsLegal rules b (e ∷ es) = IsAccepted rules b e × IsLegal rules (state_with b e) es

-- the events are legal from an open ledger on
pub record IsHistory (rules : List Rule) (b : LedgerState) (es : List Event) : Type 0 where
  pub begins : IsOpenLedger b
  pub legal : IsLegal rules b es
