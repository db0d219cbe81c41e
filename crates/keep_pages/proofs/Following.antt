-- A sheet can follow each event that is accepted.
use Rattle.std.proofs.Common.{◌∙◌, ◌+◌, ◌<◌, List, [], ◌∷◌, ap, arith, subst, sym}
use Rattle.keep_repo.specs.Repository.{Repository}
use Rattle.keep_journal.specs.History.{final_number, length_of}
use Rattle.keep_journal.specs.Journal.{posted}
use Rattle.keep_journal.specs.Opening.{IsOpen}
use Rattle.keep_journal.specs.declared.event.Event.{Event}
use Rattle.keep_hooks.specs.Guards.{Rule}
use Rattle.keep_ledger.specs.LedgerState.{LedgerState}
use Rattle.keep_ledger.specs.Limits.{event_limit}
use Rattle.keep_ledger.specs.Made.{event_of, opening_after, with_event}
use Rattle.keep_ledger.specs.Request.{CanBeMade}
use Rattle.keep_journal.specs.declared.request.Request.{Request}
use Rattle.keep_journal.specs.declared.request.Request.TheVariants.{Commit, Undo, Redo, Empty}
use Rattle.keep_ledger.proofs.Asking.{fits, room_of}
use Rattle.keep_ledger.proofs.Entered.{can_turn, made}
use Rattle.keep_ledger.proofs.Redoing.{can_redo}
use Rattle.keep_ledger.proofs.Replying.{can_empty}
use Rattle.keep_ledger.proofs.Undoing.{can_undo}
use Rattle.keep_pages.specs.Following.{Follows, IsFormedEvent}
use Rattle.keep_pages.specs.Histories.{state_of, state_with, IsAccepted, IsLegal, IsOpenLedger}
use Rattle.keep_pages.proofs.Accepting.{accepts}
use Rattle.keep_pages.proofs.Histories.{with_event-is}

module _ (b : LedgerState) (is : IsOpenLedger b) where
  formed_event : (request : Request) → CanBeMade b request → IsFormedEvent (event_of b request)
  formed_event (Commit p) can = can.begins.formed
  formed_event (Undo n) can = tt
  formed_event (Redo n) can = tt
  formed_event (Empty n) can = tt

  unfinal : (request : Request) → CanBeMade b request → final_number b.events < (event_of b request).number
  unfinal (Commit p) can = omega (arith, is.numbered.last_final)
  unfinal (Undo n) can = (can_undo b.events n _ can.begins.free).above
  unfinal (Redo n) can = (can_redo b.events n can.begins.free).above
  unfinal (Empty n) can = (can_empty b.events n can.begins.free).above

  pub open_with : (request : Request) → CanBeMade b request → IsOpenLedger (with_event b request)
  open_with request can =
      let then = made b is request can in
      subst (IsOpen (opening_after b request) (posted b.events (length_of b.events + 1) (event_of b request))) then.state then

  follows_request : (request : Request) → CanBeMade b request → Follows b (event_of b request)
  follows_request request can =
      let below : length_of b.events < event_limit = room_of b request can.begins.free in
      let live = (made b is request can).state ∙ ap (λ (s : LedgerState). s.live) (with_event-is b request) in
      record {
        formed = formed_event request can;
        can = record {
          room = omega arith;
          unfinal = unfinal request can;
          fits = fits b request can.begins;
          turns = can_turn b is request can;
        };
        same = ap (λ (r : Repository). record { events = posted b.events (length_of b.events + 1) (event_of b request); live = r }) live;
      }

-- the event of an accepted request can be followed
pub follows : (rules : List Rule) (b : LedgerState) (e : Event) → IsOpenLedger b → IsAccepted rules b e → Follows b e
follows rules b e is accepted =
    subst (Follows b) (sym accepted.event) (follows_request b is accepted.request (accepts rules b accepted.request _ accepted.reply))

-- and leaves a ledger whose events make its live repository of its opening
pub open_after : (rules : List Rule) (b : LedgerState) (e : Event) → IsOpenLedger b → IsAccepted rules b e → IsOpenLedger (state_with b e)
open_after rules b e is accepted =
    let made_by = with_event-is b accepted.request ∙ ap (state_with b) (sym accepted.event) in
    subst IsOpenLedger made_by (open_with b is accepted.request (accepts rules b accepted.request _ accepted.reply))

-- so does a list of them
pub open_at : (rules : List Rule) (b : LedgerState) (es : List Event) → IsOpenLedger b → IsLegal rules b es → IsOpenLedger (state_of b es)
open_at rules b [] is legal = is
open_at rules b (e ∷ es) is legal = open_at rules (state_with b e) es (open_after rules b e is legal.0) legal.1
