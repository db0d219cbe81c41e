-- What an answer leaves: the list of the events that are in, and what the ledger says after them.
use Rattle.std.proofs.Common.{◌≡◌, ◌≢◌, ℕ, ◌+◌, List, [], ◌∷◌, ◌++◌, length, Result, Ok, Err, refl, ap, sym, ◌∙◌, subst, arith, length-append, MatchBool}
use Rattle.keep_journal.specs.History.{length_of}
use Rattle.keep_journal.specs.declared.event.Event.{Event}
use Rattle.keep_hooks.specs.Guards.{Rule}
use Rattle.keep_ledger.specs.Ends.{heard}
use Rattle.keep_ledger.specs.LedgerState.{LedgerState}
use Rattle.keep_ledger.specs.Made.{event_of, with_event}
use Rattle.keep_ledger.specs.Reply.{Replies, about, state_after, told_of}
use Rattle.keep_ledger.specs.declared.reply.Refusal.{Refusal}
use Rattle.keep_ledger.specs.declared.reply.Refusal.TheVariants.{Fault, Unsettled}
use Rattle.keep_journal.specs.declared.request.Told.{Told}
use Rattle.keep_journal.specs.declared.request.Request.{Request}
use Rattle.keep_chronicle.specs.Chronicle.{last_events}
use Rattle.keep_chronicle.proofs.Events.{last_events-posted}
use Rattle.keep_pages.specs.Histories.{state_of, IsAccepted, IsHistory, IsLegal}
use Rattle.keep_pages.proofs.Histories.{legal-push, state_of-push, with_event-is}
use Rattle.keep_register.specs.Asked.{IsIn, WasAsked, counted_after, is_in}
use Rattle.keep_register.proofs.Telling.{told_is}

-- the list and the ledger after an answer
pub record IsRecorded (rules : List Rule) (opening : LedgerState) (request : Request) (answer : Result Told Refusal)
    (on now : List Event) (after : LedgerState) : Type 0 where
  pub asked : WasAsked rules opening request answer on now
  pub ledger : after ≡ state_of opening now
  pub history : IsHistory rules opening now
  pub counted : length now ≡ counted_after (is_in answer) (length on)

module _ (rules : List Rule) (opening : LedgerState) (request : Request) (on now : List Event) (after : LedgerState)
    (history : IsHistory rules opening on) where
  -- the request's event is in
  record IsEntered : Type 0 where
    enters : IsIn rules opening request on now
    leaves : after ≡ state_of opening now
    grows : IsHistory rules opening now
    counts : length now ≡ length on + 1

  entered : Replies (state_of opening on) rules request (Ok (told_of (state_of opening on).events request))
      → after ≡ with_event (state_of opening on) request → now ≡ on ++ last_events after.events → IsEntered
  entered replies after_is written =
      let b : LedgerState = state_of opening on in
      let e : Event = event_of b request in
      let last : last_events after.events ≡ e ∷ [] =
      ap (λ (s : LedgerState). last_events s.events) after_is ∙ last_events-posted b.events (length_of b.events + 1) e in
      let now_is : now ≡ on ++ e ∷ [] = written ∙ ap (λ es. on ++ es) last in
      let accepted : IsAccepted rules b e = record { request = request; reply = replies; event = refl } in
      record {
        enters = (replies, now_is);
        leaves = after_is ∙ (with_event-is b request ∙ (sym (state_of-push opening on e) ∙ ap (state_of opening) (sym now_is)));
        grows = record {
          begins = history.begins;
          legal = subst (IsLegal rules opening) (sym now_is) (legal-push rules opening on e history.legal accepted);
        };
        counts = omega (arith, ap length now_is, length-append on (e ∷ []));
      }

  recorded_at : (answer : Result Told Refusal)
      → (answer ≢ Err Fault → Replies (state_of opening on) rules request (heard (state_of opening on) request answer))
      → after ≡ state_after (state_of opening on) request (heard (state_of opening on) request answer)
      → ((n : ℕ) → answer ≡ Err (Unsettled n) → n ≡ about (state_of opening on).events request)
      → MatchBool (is_in answer) (now ≡ on ++ last_events after.events) (now ≡ on)
      → IsRecorded rules opening request answer on now after
  recorded_at (Ok told) replies after_is unsettled written =
      let b : LedgerState = state_of opening on in
      let said = replies (λ no. absurd (cc no)) in
      let is : told ≡ told_of b.events request = told_is rules b request told said in
      let made = entered (subst (λ (t : Told). Replies b rules request (Ok t)) is said) after_is written in
      record { asked = (made.enters, is); ledger = made.leaves; history = made.grows; counted = made.counts }
  recorded_at (Err (Unsettled n)) replies after_is unsettled written =
      let made = entered (replies (λ no. absurd (cc no))) after_is written in
      record { asked = (made.enters, unsettled n refl); ledger = made.leaves; history = made.grows; counted = made.counts }
  recorded_at (Err Fault) replies after_is unsettled written = record {
    asked = written;
    ledger = after_is ∙ ap (state_of opening) (sym written);
    history = subst (IsHistory rules opening) (sym written) history;
    counted = ap length written;
  }
  recorded_at (Err refusal) replies after_is unsettled written = record {
    asked = (replies (λ no. absurd (cc no)), written);
    ledger = after_is ∙ ap (state_of opening) (sym written);
    history = subst (IsHistory rules opening) (sym written) history;
    counted = ap length written;
  }

  -- a request is recorded where the ledger says what those events leave, and the vetoes are these
  pub recorded : (b : LedgerState) → b ≡ state_of opening on → (vetoes : List Rule) → vetoes ≡ rules
      → (answer : Result Told Refusal) → (answer ≢ Err Fault → Replies b vetoes request (heard b request answer))
      → after ≡ state_after b request (heard b request answer)
      → ((n : ℕ) → answer ≡ Err (Unsettled n) → n ≡ about b.events request)
      → MatchBool (is_in answer) (now ≡ on ++ last_events after.events) (now ≡ on)
      → IsRecorded rules opening request answer on now after
  recorded b is vetoes same answer replies =
      let P : LedgerState → Type 0 = λ s. (answer ≢ Err Fault → Replies s rules request (heard s request answer))
      → after ≡ state_after s request (heard s request answer)
      → ((n : ℕ) → answer ≡ Err (Unsettled n) → n ≡ about s.events request)
      → MatchBool (is_in answer) (now ≡ on ++ last_events after.events) (now ≡ on)
      → IsRecorded rules opening request answer on now after in
      subst P (sym is) (recorded_at answer)
      (λ no. subst (λ (rs : List Rule). Replies b rs request (heard b request answer)) same (replies no))
